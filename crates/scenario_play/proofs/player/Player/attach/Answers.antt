use Rattle.std.proofs.Common.{rules, refl}
use Rattle.scenario_play.proofs.player.Player.attach.Goals as goal

pub returns : goal.returns
returns g c =
    record {
      attach = record {
        handle = c.args.attach.now.handle;
        snd_settle_mode = c.args.attach.now.snd_settle_mode;
        rcv_settle_mode = c.args.attach.now.rcv_settle_mode;
        has_target = c.args.attach.now.has_target;
        unsettled = c.as_slice.result;
        incomplete_unsettled = c.args.attach.now.incomplete_unsettled;
        max_message_size = c.args.attach.now.max_message_size;
      };
      handle = refl;
      snd_settle_mode = refl;
      rcv_settle_mode = refl;
      has_target = refl;
      incomplete = refl;
      limit = refl;
      unsettled = search rules;
      answer = c.attach_with.ensures.answer;
      scene = c.attach_with.ensures.scene;
    }

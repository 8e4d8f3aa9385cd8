-- An attach's line, with the peer's map that its list tells.
use Rattle.std.specs.Prelude.{◌≡◌, List, map}
use Rattle.link.specs.declared.attach.Attach.{Attach}
use Rattle.link.specs.Attaching.{attach_answer}
use Rattle.link.specs.Calls.{Attach as AttachCall, step}
use Rattle.scenario_text.specs.declared.command.PeerAttach.{PeerAttach}
use Rattle.scenario_text.specs.Commands.{Pair}
use Rattle.scenario_text.specs.Lists.{delivered}
use Rattle.scenario_play.specs.declared.answer.Answer.{Answer}
use Rattle.scenario_play.specs.Answers.{attached}
use Rattle.scenario_play.specs.Scenes.{Scene, with_link}

-- the link is attached by what the line says and the pairs of its list
pub record AttachesLine (p : PeerAttach) (pairs : List Pair) (s : Scene) (a : Answer) (t : Scene) : Type 0 where
  pub attach : Attach
  pub handle : attach.handle ≡ p.handle
  pub snd_settle_mode : attach.snd_settle_mode ≡ p.snd_settle_mode
  pub rcv_settle_mode : attach.rcv_settle_mode ≡ p.rcv_settle_mode
  pub has_target : attach.has_target ≡ p.has_target
  pub incomplete : attach.incomplete_unsettled ≡ p.incomplete_unsettled
  pub limit : attach.max_message_size ≡ p.max_message_size
  pub unsettled : map delivered attach.unsettled.now ≡ pairs
  pub answer : a ≡ attached (attach_answer s.link attach s.pool)
  pub scene : t ≡ with_link (step s.link (AttachCall attach s.pool)) s

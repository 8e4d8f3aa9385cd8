use Rattle.std.proofs.Common.{sym, ap, ◌∙◌}
use Rattle.link.specs.Rows.{first}
use Rattle.link.specs.Sending.{carrier, own_rows, transfer_of, send_refusal}
use Rattle.link.proofs.Rows.{err_by, gated_err, gated_ok, accepted}
use Rattle.link.specs.Calls.{Send}
use Rattle.runs.proofs.Runs.{safe_after}
use Rattle.sender.specs.Sends.{answered, plan_of}
use Rattle.link.proofs.Sending.{clear, carries}
use Rattle.sender.proofs.Sending.{refused_answer, refused_link, refused_sink, refused_carries, whole_answer, whole_link, whole_sink}
use Rattle.sender.proofs.sender_link.SenderLink.send.Goals as goal

pub returns-in_err-plan : goal.returns-in_err-plan
returns-in_err-plan g c =
    let v = c.args.self.now in
    let k = carrier (g.E.Encoder.bytes c.args.encoder.now) c.args.pool.now (g.S.Sink.model c.args.sink.now) in
    let m = c.args.message.now in
    let e = gated_err (first (own_rows v k m)) (plan_of v k m) _ (sym c.in_err-plan.was ∙ c.may_send.ensures) in
    let f = c.from_residual.ensures in
    let r = err_by c.from_residual.result _ f.0 f.1 in
    let l = refused_link v k m _ e in
    record {
      sends = record {
        answer = ap answered r ∙ refused_answer v k m _ e;
        link = l;
        sink = refused_sink v k m _ e;
        carries = refused_carries v k m _ _ e;
      };
      uncollected = rw r tt;
      no_delivery_lost_or_ended_twice = safe_after v (Send k m) v l;
    }

pub do_send-requires : goal.do_send-requires
do_send-requires g c =
    let v = c.args.self.now in
    let k = carrier (g.E.Encoder.bytes c.args.encoder.now) c.args.pool.now (g.S.Sink.model c.args.sink.now) in
    let m = c.args.message.now in
    let e = gated_ok (first (own_rows v k m)) (plan_of v k m) c.in_ok-plan.plan (sym c.in_ok-plan.was ∙ c.may_send.ensures) in
    let f = clear v k m e.0 in
    let s = ap (λ p. p.settled) e.1 in
    record { place = f.place; absent = λ h. f.absent (sym s ∙ h); room = λ h. f.room (sym s ∙ h) }

pub returns : goal.returns
returns g c =
    let v = c.args.self.now in
    let k = carrier (g.E.Encoder.bytes c.args.encoder.now) c.args.pool.now (g.S.Sink.model c.args.sink.now) in
    let m = c.args.message.now in
    let e = gated_ok (first (own_rows v k m)) (plan_of v k m) c.in_ok-plan.plan (sym c.in_ok-plan.was ∙ c.may_send.ensures) in
    let w = g.met.E.Encoder.widest c.args.encoder.now (transfer_of v m) in
    let d = c.do_send.ensures.handed_over in
    let l = whole_link v k m _ _ e.1 e.0 d.link in
    record {
      sends = record {
        answer = whole_answer v k m _ _ e.1 e.0 d.answer;
        link = l;
        sink = whole_sink v k m _ _ e.1 e.0 d.sink;
        carries = accepted (send_refusal v k m) (carries v k m w (clear v k m e.0));
      };
      uncollected = c.do_send.ensures.uncollected;
      no_delivery_lost_or_ended_twice = safe_after v (Send k m) _ l;
    }

use Rattle.std.proofs.Common.{◌+◌, ◌≤◌, length, Ok, sym, ap, ◌∙◌, subst}
use Rattle.link.specs.Attaching.{attach_refusal, late_refusal, attached_state, exchanged}
use Rattle.link.specs.Calls.{Attach}
use Rattle.link.specs.Rows.{gated}
use Rattle.link.specs.Views.{View}
use Rattle.link.proofs.Rows.{err_by, gated_err, gated_ok}
use Rattle.runs.proofs.Runs.{safe_after}
use Rattle.sender.proofs.Attaching.{refused_answer, refused_link, late_answer, done_answer, moved_to, late_link, done_link, room}
use Rattle.sender.proofs.sender_link.SenderLink.attach.Goals as goal

pub returns-in_err-self-inside : goal.returns-in_err-self-inside
returns-in_err-self-inside c =
    let v = c.args.self.now in
    let a = c.args.attach.now in
    let pool = c.args.pool.now in
    let e = gated_err (attach_refusal v a pool) (attached_state v a) _ (sym c.in_err-self-inside.was ∙ c.may_attach.ensures.answer) in
    let f = c.from_residual.ensures in
    let l = refused_link v a pool _ e in
    record {
      answer = err_by c.from_residual.result _ f.0 f.1 ∙ refused_answer v a pool _ e;
      link = l;
      no_delivery_lost_or_ended_twice = safe_after v (Attach a pool) v l;
    }

pub returns-in_err-negotiate : goal.returns-in_err-negotiate
returns-in_err-negotiate c =
    let v = c.args.self.now in
    let a = c.args.attach.now in
    let pool = c.args.pool.now in
    let m = gated_ok (attach_refusal v a pool) (attached_state v a) _ (sym c.in_ok-self-inside.was ∙ c.may_attach.ensures.answer) in
    let n = c.negotiate.ensures in
    let e = gated_err (late_refusal v a) tt _ (sym c.in_err-negotiate.was ∙ n.answer ∙ ap (λ u. gated (late_refusal u a) tt) c.self.view_is) in
    let f = c.from_residual-in_err-negotiate.ensures in
    let l = late_link v a pool m.0 _ m.1 _ (n.link ∙ ap (λ u. moved_to c.in_ok-self-inside.field-0 u a) c.self.view_is) _ e in
    record {
      answer = err_by c.from_residual-in_err-negotiate.result _ f.0 f.1 ∙ late_answer v a pool _ m.0 e;
      link = l;
      no_delivery_lost_or_ended_twice = safe_after v (Attach a pool) _ l;
    }

pub resume_all-requires-clause-room : goal.resume_all-requires-clause-room
resume_all-requires-clause-room c =
    let v = c.args.self.now in
    let a = c.args.attach.now in
    let pool = c.args.pool.now in
    let m = gated_ok (attach_refusal v a pool) (attached_state v a) _ (sym c.in_ok-self-inside.was ∙ c.may_attach.ensures.answer) in
    let w = c.negotiate.ensures.link ∙ ap (λ u. moved_to c.in_ok-self-inside.field-0 u a) c.self.view_is in
    subst (λ (u : View). length u.held.resume + length u.held.table ≤ u.rooms.resume) (sym w) (room v a pool m.0)

pub returns : goal.returns
returns c =
    let v = c.args.self.now in
    let a = c.args.attach.now in
    let pool = c.args.pool.now in
    let m = gated_ok (attach_refusal v a pool) (attached_state v a) _ (sym c.in_ok-self-inside.was ∙ c.may_attach.ensures.answer) in
    let n = c.negotiate.ensures in
    let w = n.link ∙ ap (λ u. moved_to c.in_ok-self-inside.field-0 u a) c.self.view_is in
    let o = gated_ok (late_refusal v a) tt _ (sym c.in_ok-negotiate.was ∙ n.answer ∙ ap (λ u. gated (late_refusal u a) tt) c.self.view_is) in
    let l = done_link v a pool m.0 _ m.1 _ w _ o.0 c.resume_all.ensures in
    let x = ap (λ u. exchanged u.state u a) w in
    let y = ap (λ s. exchanged s v a) m.1 in
    record {
      answer = ap Ok (c.exchange-exchange.ensures ∙ x ∙ y) ∙ done_answer v a pool m.0 o.0;
      link = l;
      no_delivery_lost_or_ended_twice = safe_after v (Attach a pool) _ l;
    }

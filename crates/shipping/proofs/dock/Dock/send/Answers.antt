use Rattle.std.proofs.Common.{◌≡◌, ℕ, Bool, true, false, inr, sym, ap, ◌∙◌, subst, arith, rules, tests}
use Rattle.sink.specs.Frames.{Model}
use Rattle.link.specs.Calls.{Flow, step}
use Rattle.link.specs.Views.{View}
use Rattle.std.proofs.lemmas.Bool.{false≢true}
use Rattle.amqp.specs.declared.error.SendError.TheVariants.{NoCredit}
use Rattle.shipping.specs.declared.report.ShipError.TheVariants.{Refused}
use Rattle.shipping.specs.Archives.{granting}
use Rattle.shipping.specs.Docks.{Roomed}
use Rattle.shipping.proofs.Sends.{first_try, first_refused, sending_later, alike_regranted, kept_back}
use Rattle.shipping.proofs.dock.Dock.send.Goals as goal

pub returns-in-Ok-clause-sends : goal.returns-in-Ok-clause-sends
returns-in-Ok-clause-sends g c =
    first_try _ _ _ _ _ _ _ _ _ (λ n. let z : ◌≡◌ {A = ℕ} 0 1 = cc in omega arith) c.in-Ok.ensures.sends

pub returns-in-Err-2-clause-sends : goal.returns-in-Err-2-clause-sends
returns-in-Err-2-clause-sends g c =
    let other : c.in-Err.e ≡ Refused NoCredit → ⊥ = λ e. (let t : ◌≡◌ {A = Bool} false true = rw e at c.if-eq.ensures in false≢true t) in
    first_refused _ _ _ _ _ _ _ _ _ other c.in-Err.ensures.sends

pub returns-in-Err-clause-sends : goal.returns-in-Err-clause-sends
returns-in-Err-clause-sends g c =
    let refused = c.in-Err in
    let tried = c.send_in_room.new.self in
    let t = c.if-eq.ensures in
    let short : refused.e ≡ Refused NoCredit = search (rules, tests) in
    let kept = kept_back _ _ _ _ refused.e NoCredit tried.link tried.sink short refused.ensures.sends in
    let again = c.send_in_room-in-Err in
    let anew = c.grant.ensures.link ∙ ap (λ (v : View). step v (Flow (granting tried.credit tried.archive))) kept.0 ∙ ap (λ (n : ℕ). step c.args.self.now.link (Flow (granting n tried.archive))) refused.ensures.credit in
    record {
      u = c.grant.new.self.link;
      alike = alike_regranted _ _ c.args.self.now.credit tried.archive anew;
      intake = tried.archive;
      seen = λ e. refused.ensures.archive e (λ n. let z : ◌≡◌ {A = ℕ} 0 1 = cc in omega arith);
      granted = inr anew;
      anew = λ _. anew;
      sending = sending_later c.grant.new.self.link (g.E.Encoder.bytes c.args.encoder.now) c.args.message.now c.args.self.now.sink c.grant.new.self.sink again.result again.new.self.link again.new.self.sink (subst (λ (m : Model). Roomed c.args.self.now.sink m) (sym c.grant.ensures.sink) kept.1) again.ensures.sends;
    }

-- An outcome is read by the head of its text.
use Rattle.std.proofs.Common.{◌≡◌, ℕ, List, ◌++◌, None, refl, codes}
use Rattle.amqp.specs.declared.condition.AmqpError.{AmqpError}
use Rattle.amqp.specs.declared.state.DeliveryState.{DeliveryState}
use Rattle.amqp.specs.Texts.{state_text}
use Rattle.link.specs.declared.delivery.Outcome.{Outcome}
use Rattle.link.specs.declared.delivery.Outcome.TheVariants.{State, NoState, RemoteClosed, RemoteClosedWithError}
use Rattle.link.specs.Texts.{outcome_text}
use Rattle.scenario_text.specs.Reading.{Reads}
use Rattle.scenario_text.specs.Values.{IsState, IsOutcome, error_text}
use Rattle.scenario_text.proofs.Reading.{none_read, unread}

abbrev head : List ℕ
head = codes "RemoteClosedWithError "

no_outcome : (text : List ℕ) (o : Outcome) → (text ≡ codes "none" → ⊥) → (text ≡ codes "RemoteClosed" → ⊥) → ((e : AmqpError) → text ≡ head ++ error_text e → ⊥) → ((s : DeliveryState) → IsState s → text ≡ state_text s → ⊥) → IsOutcome o → text ≡ outcome_text o → ⊥
no_outcome text NoState nn nc ne ns fits e = nn e
no_outcome text (State s) nn nc ne ns fits e = ns s fits e
no_outcome text RemoteClosed nn nc ne ns fits e = nc e
no_outcome text (RemoteClosedWithError c) nn nc ne ns fits e = ne c e

-- neither a state nor an error's head
pub outcome_unread : (text : List ℕ) → (text ≡ codes "none" → ⊥) → (text ≡ codes "RemoteClosed" → ⊥) → ((x : List ℕ) → text ≡ head ++ x → ⊥) → Reads state_text IsState text None → Reads outcome_text IsOutcome text None
outcome_unread text nn nc nh hs =
    none_read outcome_text IsOutcome text (λ o fits e. no_outcome text o nn nc (λ c. nh (error_text c)) (λ s f. unread state_text IsState text None refl hs s f) fits e)

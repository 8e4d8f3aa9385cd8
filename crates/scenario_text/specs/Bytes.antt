-- What it means that bytes are read.
use Rattle.std.specs.Prelude.{◌≡◌, ℕ, List, Result, IfOk, IfErr}
use Rattle.std.specs.Global.{Vec}
use Rattle.headers_text.specs.declared.hex.HexFault.{HexFault}
use Rattle.headers_text.specs.declared.hex.HexFault.TheVariants.{Memory}
use Rattle.scenario_text.specs.Values.{AreBytes, bytes_text}

-- r has the bytes that the text writes; or, if memory is there, it writes none
pub record ReadsBytes (text : List ℕ) (r : Result (Vec ℕ) HexFault) : Type 0 where
  pub printed : IfOk r (λ v. text ≡ bytes_text v.items)
  pub refused : IfErr r (λ f. (f ≡ Memory → ⊥) → (bs : List ℕ) → AreBytes bs → text ≡ bytes_text bs → ⊥)

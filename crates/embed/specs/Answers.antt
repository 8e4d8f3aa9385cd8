-- What an export answers.
use Rattle.std.specs.Prelude.{ℕ}
use Rattle.embed.specs.declared.answer.Answer.{Answer}

abbrev pub done : ℕ → Answer
done value = record { status = 0; value = value }

abbrev pub refused : ℕ → ℕ → Answer
refused status value = record { status = status; value = value }

-- What is printed of what is wrong.
use Rattle.std.specs.Prelude.{ℕ, List, ◌++◌, codes, decimal, Option, Some, None}
use Rattle.scenario_text.specs.Faults.{fault_text}
use Rattle.scenario_play.specs.declared.trouble.Failure.{Failure}
use Rattle.scenario_play.specs.declared.trouble.Trouble.{Trouble}
use Rattle.scenario_play.specs.declared.trouble.Trouble.TheVariants.{Text, NoText, TooLong, NoLink, NoSink, Again, WrongSink, File, LargePool, Memory, Io}

-- the words of the system about an error are not known
abbrev pub trouble_text : Trouble → Option (List ℕ)
trouble_text (Text f) = Some (fault_text f)
trouble_text NoText = Some (codes "it is no text")
trouble_text TooLong = Some (codes "it is longer than any command")
trouble_text NoLink = Some (codes "the first line has to make the link")
trouble_text NoSink = Some (codes "the second line has to make a queue or a spool")
trouble_text Again = Some (codes "the link and its sink are made already")
trouble_text WrongSink = Some (codes "a queue is taken from, and a spool is emptied")
trouble_text File = Some (codes "the file cannot be read")
trouble_text LargePool = Some (codes "a pool has 70,000,000 bytes at most")
trouble_text Memory = Some (codes "out of memory")
trouble_text (Io e) = None

abbrev pub at_line : (line : ℕ) → Option (List ℕ) → Option (List ℕ)
at_line line None = None
at_line line (Some text) = Some (codes "line " ++ (decimal line ++ (codes ": " ++ text)))

abbrev pub failure_text : Failure → Option (List ℕ)
failure_text f = at_line f.line (trouble_text f.trouble)

-- What is printed of a break.
use Rattle.std.specs.Prelude.{ℕ, List, ◌++◌, Some, None, codes, decimal, Option}
use Rattle.headers_text.specs.Shows.{tag_text}
use Rattle.voyage.specs.declared.report.Break.{Break}
use Rattle.voyage.specs.declared.report.Unfinished.{Unfinished}

abbrev pub unfinished_text : Unfinished → List ℕ
unfinished_text u = tag_text u.tag ++ (codes " at received(0," ++ (decimal u.bytes ++ codes ")"))

abbrev pub told_text : Option Unfinished → List ℕ
told_text None = codes "none unfinished"
told_text (Some u) = unfinished_text u

abbrev pub break_text : Break → List ℕ
break_text b =
    codes "break after "
    ++ (decimal b.frames
    ++ (codes " frames: "
    ++ (decimal b.accepted ++ (codes " accepted, " ++ (told_text b.unfinished ++ (codes ", " ++ (decimal b.unknown ++ codes " unknown")))))))

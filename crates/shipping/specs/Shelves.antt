-- Shelves and their names.
use Rattle.std.specs.Prelude.{◌≡◌, ℕ, List, Some, None, Ok, codes, Option, Result, ◌≢◌}
use Rattle.std.specs.Result.{result_ok}
use Rattle.shipping.specs.declared.shelf.Shelf.{Shelf}
use Rattle.shipping.specs.declared.shelf.Shelf.TheVariants.{Response, Mesh, RayLog}
use Rattle.shipping.specs.declared.shelf.UnknownShelf.{UnknownShelf}

-- what is printed of a shelf
abbrev pub name_of : Shelf → List ℕ
name_of Response = codes "response"
name_of Mesh = codes "mesh"
name_of RayLog = codes "raylog"

-- a text that reads as a shelf is its name, and any other is no shelf's name
abbrev pub Named : List ℕ → Option Shelf → Type 0
Named text None = (s : Shelf) → text ≢ name_of s
Named text (Some s) = text ≡ name_of s

-- each shelf's name reads as it, and no other text reads as a shelf
pub record ReadsShelf (text : List ℕ) (r : Result Shelf UnknownShelf) : Type 0 where
  pub back : (s : Shelf) → text ≡ name_of s → r ≡ Ok s
  pub only : Named text (result_ok r)

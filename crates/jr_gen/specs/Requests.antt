-- The requests on the generated workspace.
use Rattle.std.specs.Prelude.{◌≡◌, List, [], ◌∷◌, codes, slice_range}
use Rattle.jr_base.specs.declared.request.Request.{Request}
use Rattle.jr_base.specs.declared.request.Request.TheVariants.{Rename, Move, Extract}
use Rattle.jr_gen.specs.Workspace.{text_of}

abbrev pub requests_of : List Request
requests_of =
    Rename (codes "g/C0.java") 144 (codes "x") ∷ Move (codes "g/C0.java") 25 (codes "h") ∷ Extract (codes "h/C0.java") 100 110 (codes "triple") ∷ []

-- what stands at the offsets of the requests
pub record ArePlaces : Type 0 where
  pub parameter : slice_range (text_of 0) 135 145 ≡ codes "next(int y"
  pub class : slice_range (text_of 0) 12 27 ≡ codes "public class C0"
  pub statement : slice_range (text_of 0) 100 110 ≡ codes "b = b * 3;"

-- A path has one way to be split at its folder and at the ending of its file.
use Rattle.std.proofs.Common.{◌≡◌, ◌≢◌, ℕ, ◌+◌, ◌-◌, min, ◌<◌, ◌^◌, Bool, false, List, [], ◌∷◌, ◌++◌, drop, take, length, get_or, Option, Some, None, MatchOption, Bor, nat_eq, codes, Decides, Contains, sym, ◌∙◌, ap, subst, arith}
use Rattle.std.proofs.lemmas.Bool.Decides.{Decides-eqb}
use Rattle.std.proofs.lemmas.List.{append_cancel_left, append_cancel_right, append_assoc, take_more, take-append-drop}
use Rattle.std.proofs.lemmas.List.Elements.{contains_decides, Decides-contains}
use Rattle.std.specs.List.{IsAnyAnswer}
use Rattle.jr_base.specs.declared.text.Text.{Text}
use Rattle.jr_tree.specs.declared.tree.TypeDecl.{TypeDecl}
use Rattle.jr_tree.specs.Mirror.Decls as d
use Rattle.jr_defs.specs.declared.program.UnitAt.{UnitAt}
use Rattle.jr_defs.specs.Program.{folder, package_path, HasFileName, HaveFileName, IsUnitPlaced, AllPlaced}
use Rattle.jr_front.specs.Placed.{IsFileName, IsFirstMisplaced}

-- where an option is none, what is said of none holds of it
pub none_then : {A P : Type 0} (Q : A → Type 0) (r : Option A) → r ≡ None → P → MatchOption r P Q
none_then {A} {P} Q r e p = subst (λ (o : Option A). MatchOption o P Q) (sym e) p

-- what is behind a part, and what of it is behind a slash
pub behind_slash : (path part behind : List ℕ) (r : Option (Bor (List ℕ))) → path ≡ part ++ behind → MatchOption r ((rest : List ℕ) → behind ≢ codes "/" ++ rest) (λ x. behind ≡ codes "/" ++ x.now)
    → MatchOption r ((rest : List ℕ) → path ≡ part ++ (codes "/" ++ rest) → ⊥) (λ x. path ≡ part ++ (codes "/" ++ x.now))
behind_slash path part behind None e h = λ rest k. h rest (append_cancel_left part behind (codes "/" ++ rest) (sym e ∙ k))
behind_slash path part behind (Some x) e h = e ∙ ap (λ (xs : List ℕ). part ++ xs) h

pub slash_tells : (file : List ℕ) (r : Bool) → IsAnyAnswer (λ y t. nat_eq y 47 ≡ t) file r → Decides r (Contains file 47)
slash_tells file r h = Decides-contains file 47 r (contains_decides nat_eq Decides-eqb file 47 r h)

-- what is behind the folder is behind one part of it and the folders of the others
folder_apart : (part : Text) (parts : List Text) (rest : List ℕ) → folder (part ∷ parts) ++ rest ≡ part ++ (codes "/" ++ (folder parts ++ rest))
folder_apart part parts rest = append_assoc part (codes "/" ++ folder parts) rest

-- what is behind the folders that are left
pub record IsBehind (path rest : List ℕ) (parts left : List Text) : Type 0 where
  pub on : (end : List ℕ) → path ≡ folder parts ++ end → rest ≡ folder left ++ end
  pub back : (end : List ℕ) → rest ≡ folder left ++ end → path ≡ folder parts ++ end

pub behind_none : (path : List ℕ) (parts : List Text) → IsBehind path path parts parts
behind_none path parts = record { on = λ end e. e; back = λ end e. e }

pub behind_more : (path rest after : List ℕ) (parts left more : List Text) (part : Text) → left ≡ part ∷ more → rest ≡ part ++ (codes "/" ++ after) → IsBehind path rest parts left → IsBehind path after parts more
behind_more path rest after parts left more part e s b = record {
  on = λ end h. append_cancel_left (codes "/") after (folder more ++ end)
      (append_cancel_left part (codes "/" ++ after) (codes "/" ++ (folder more ++ end))
      (sym s ∙ (b.on end h ∙ (ap (λ (ps : List Text). folder ps ++ end) e ∙ folder_apart part more end))));
  back = λ end h. b.back end (s ∙ (ap (λ (xs : List ℕ). part ++ (codes "/" ++ xs)) h ∙ (sym (folder_apart part more end) ∙ ap (λ (ps : List Text). folder ps ++ end) (sym e))));
}

-- where a part is not there, no folder is
pub not_behind : (path rest : List ℕ) (parts left more : List Text) (part : Text) → left ≡ part ∷ more → ((after : List ℕ) → rest ≡ part ++ (codes "/" ++ after) → ⊥) → IsBehind path rest parts left → (end : List ℕ) → path ≡ folder parts ++ end → ⊥
not_behind path rest parts left more part e never b end h = never (folder more ++ end) (b.on end h ∙ (ap (λ (ps : List Text). folder ps ++ end) e ∙ folder_apart part more end))

-- one name has this ending
pub one_file : (rest file other : List ℕ) → rest ≡ file ++ codes ".java" → rest ≡ other ++ codes ".java" → file ≡ other
one_file rest file other e h = append_cancel_right file other (codes ".java") (sym e ∙ h)

-- where there is a slash in the name, it is no file
pub not_plain : (rest file : List ℕ) → rest ≡ file ++ codes ".java" → Contains file 47 → (other : List ℕ) → IsFileName rest other → ⊥
not_plain rest file e h other named = named.plain_file (subst (λ (xs : List ℕ). Contains xs 47) (one_file rest file other e named.stands) h)

-- ---- names of public types

pub have_first : (file : List ℕ) (types more : List TypeDecl) (declared : TypeDecl) → types ≡ declared ∷ more → HaveFileName file (d.plain_decls types) → HasFileName file (d.plain_decl declared) × HaveFileName file (d.plain_decls more)
have_first file types more declared e h = subst (λ (all : List TypeDecl). HaveFileName file (d.plain_decls all)) e h

pub have_more : (file : List ℕ) (types more : List TypeDecl) (declared : TypeDecl) → types ≡ declared ∷ more → HasFileName file (d.plain_decl declared) → HaveFileName file (d.plain_decls more) → HaveFileName file (d.plain_decls types)
have_more file types more declared e one rest = subst (λ (all : List TypeDecl). HaveFileName file (d.plain_decls all)) (sym e) (one, rest)

-- ---- units

pub refused : {P : Type 0} → (P → ⊥) → Decides false P
refused never = (λ e. cc, λ h. absurd (never h))

pub not_in_folder : (u : UnitAt) → ((rest : List ℕ) → u.path ≡ folder (package_path u.unit.package) ++ rest → ⊥) → IsUnitPlaced u → ⊥
not_in_folder u never h = never (h.file ++ codes ".java") h.stands

-- what is behind the folder is the file
pub file_behind : (u : UnitAt) (rest : List ℕ) → u.path ≡ folder (package_path u.unit.package) ++ rest → (h : IsUnitPlaced u) → IsFileName rest h.file
file_behind u rest e h = record { plain_file = h.plain_file; stands = append_cancel_left (folder (package_path u.unit.package)) rest (h.file ++ codes ".java") (sym e ∙ h.stands) }

pub placed_tells : (u : UnitAt) (rest file : List ℕ) (r : Bool) → u.path ≡ folder (package_path u.unit.package) ++ rest → IsFileName rest file → Decides r (HaveFileName file (d.plain_decls u.unit.types)) → Decides r (IsUnitPlaced u)
placed_tells u rest file r e named tells = (
  λ yes. record { file = file; plain_file = named.plain_file; stands = e ∙ ap (λ (xs : List ℕ). folder (package_path u.unit.package) ++ xs) named.stands; named = tells.0 yes },
  λ h. tells.1 (subst (λ (name : List ℕ). HaveFileName name (d.plain_decls u.unit.types)) (one_file rest h.file file (file_behind u rest e h).stands named.stands) h.named),
)

-- ---- all units

-- of the units up to this one, all before it are placed, and the number is counted from the first
pub record AreCounted (from : ℕ) (units : List UnitAt) (i n : ℕ) : Type 0 where
  pub placed : AllPlaced (take i units)
  pub counted : from + i < 2 ^ 32 → n ≡ from + i

pub all_placed_more : (before : List UnitAt) (u : UnitAt) → AllPlaced before → IsUnitPlaced u → AllPlaced (before ++ u ∷ [])
all_placed_more [] u h one = (one, tt)
all_placed_more (x ∷ xs) u h one = (h.0, all_placed_more xs u h.1 one)

pub placed_within : (before : List UnitAt) (u : UnitAt) (after : List UnitAt) → AllPlaced (before ++ u ∷ after) → IsUnitPlaced u
placed_within [] u after h = h.0
placed_within (x ∷ xs) u after h = placed_within xs u after h.1

pub counted_more : (from : ℕ) (units : List UnitAt) (i number next : ℕ) (u : UnitAt) → i < length units → u ≡ get_or units i u → IsUnitPlaced u → (number + 1 < 2 ^ 32 → next ≡ number + 1) → AreCounted from units i number → AreCounted from units (i + 1) next
counted_more from units i number next u h e one adds counted = record {
  placed = subst (λ (all : List UnitAt). AllPlaced all) (ap (λ (x : UnitAt). take i units ++ x ∷ []) e ∙ sym (take_more units i u h)) (all_placed_more (take i units) u counted.placed one);
  counted = λ few. let before : number ≡ from + i = counted.counted (omega arith) in let after : next ≡ number + 1 = adds (omega arith) in omega arith;
}

-- the units are those before this one, it, and those after it
pub split_at : (units : List UnitAt) (i : ℕ) (u : UnitAt) (more : List UnitAt) → drop i units ≡ u ∷ more → units ≡ take i units ++ u ∷ more
split_at units i u more e = sym (take-append-drop i units) ∙ ap (λ (rest : List UnitAt). take i units ++ rest) e

pub not_all_placed : (units : List UnitAt) (i : ℕ) (u : UnitAt) (more : List UnitAt) → drop i units ≡ u ∷ more → (IsUnitPlaced u → ⊥) → AllPlaced units → ⊥
not_all_placed units i u more e never all = never (placed_within (take i units) u more (subst (λ (us : List UnitAt). AllPlaced us) (split_at units i u more e) all))

pub first_is : (from : ℕ) (units : List UnitAt) (i number : ℕ) (u : UnitAt) (more : List UnitAt) → length (take i units) ≡ i → drop i units ≡ u ∷ more → (IsUnitPlaced u → ⊥) → AreCounted from units i number → IsFirstMisplaced from units (record { 0 = number })
first_is from units i number u more l e never counted = record {
  before = take i units;
  misplaced = u;
  after = more;
  split = split_at units i u more e;
  placed = counted.placed;
  is_not = never;
  number = λ few. subst (λ n. from + n < 2 ^ 32 → number ≡ from + n) (sym l) counted.counted few;
}

pub saturated : (n next : ℕ) → next ≡ min (n + 1) (2 ^ 32 - 1) → n + 1 < 2 ^ 32 → next ≡ n + 1
saturated n next e few = omega arith

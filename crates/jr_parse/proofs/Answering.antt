-- What parsing answers follows from how the unit is read.
use Rattle.std.proofs.Common.{◌≡◌, ℕ, ◌+◌, ◌-◌, ◌<◌, ◌≤◌, max, List, [], ◌∷◌, ◌++◌, length, take, Ok, Err, refl, sym, ap, ◌∙◌, subst, arith, append_assoc, length-append}
use Rattle.std.proofs.lemmas.List.{take_at}
use Rattle.std.proofs.Math.Seq.{take-append-add}
use Rattle.jr_base.specs.declared.kind.Kind.{Kind}
use Rattle.jr_tree.specs.declared.tree.Unit as declared
use Rattle.jr_tree.specs.Mirror.Decls as d
use Rattle.jr_tree.specs.Mirror.Decls.{plain_unit}
use Rattle.jr_tree.specs.Tokens.{unit_tokens, tokens_of}
use Rattle.jr_tree.proofs.Same.Decls.{tree_unit, plain_tree_unit}
use Rattle.jr_parse_laws.specs.declared.fault.Fault.{Fault}
use Rattle.jr_parse_laws.specs.declared.fault.Fault.TheVariants.{NoTree, TooDeep, OutOfMemory}
use Rattle.jr_parse_laws.specs.Parsers.{first}
use Rattle.jr_parse_laws.specs.Viable.{Begun, Wider, Stuck}
use Rattle.jr_parse_laws.proofs.Outcomes.{err_ok}
use Rattle.jr_parse_defs.specs.Decls.{unit}
use Rattle.jr_parse_defs.specs.Writing.{write_unit}
use Rattle.jr_parse_defs.specs.Laws.{IsUnitOf}
use Rattle.jr_parse_defs.proofs.Stuck.{units_stuck}
use Rattle.jr_parse_defs.proofs.Imports.{units_complete, units_sound, written_whole}
use Rattle.jr_parse.specs.Answers.{IsReading, Begins, IsFirstFault, IsNoTree, IsTooDeep}

-- ---- trees and plain data

record IsPlainReading (most : ℕ) (u : d.CompilationUnit) (ts : List Kind) : Type 0 where
  is : IsUnitOf most u
  written : unit_tokens u ≡ ts

seen : (most : ℕ) (u : declared.Unit) (ts : List Kind) → IsPlainReading most (plain_unit u) ts → IsReading most u ts
seen most u ts r = record { shaped = r.is.0; low = r.is.1; written = r.written }

from_plain : (most : ℕ) (u : d.CompilationUnit) (ts : List Kind) → IsPlainReading most u ts → IsReading most (tree_unit u) ts
from_plain most u ts r = seen most (tree_unit u) ts (subst (λ (u : d.CompilationUnit). IsPlainReading most u ts) (sym (plain_tree_unit u)) r)

pub reading : (most : ℕ) (ts : List Kind) (u : declared.Unit) (rest : List Kind) → unit most ts ≡ Ok (plain_unit u, rest) → IsReading most u ts
reading most ts u rest h = let found = units_sound most ts (plain_unit u, rest) h in record { shaped = found.shaped; low = found.low; written = sym found.written }

-- ---- where it stops, by number

front_is : (ts front rest : List Kind) → ts ≡ front ++ rest → front ≡ take (length ts - length rest) ts
front_is ts front rest e =
    let n : length front ≡ length ts - length rest = omega (arith, ap (λ (l : List Kind). length l) e, length-append front rest) in
    sym (ap (take (length ts - length rest)) e ∙ take_at front rest (length ts - length rest) n)

front_more : (ts front rest : List Kind) (k : Kind) → ts ≡ front ++ k ∷ rest → take (length ts - length (k ∷ rest) + 1) ts ≡ front ++ k ∷ []
front_more ts front rest k e =
    let n : length ts - length (k ∷ rest) + 1 ≡ length front + 1 = omega (arith, ap (λ (l : List Kind). length l) e, length-append front (k ∷ rest)) in
    ap (λ n. take n ts) n ∙ ap (take (length front + 1)) e ∙ take-append-add front (k ∷ rest) 1 ∙ ap (λ (l : List Kind). front ++ k ∷ l) refl

abbrev UnitStop : ℕ → List Kind → Fault → List Kind → Type 0
UnitStop = Stuck IsUnitOf write_unit unit

-- a reading that begins as the tokens do up to the fault
refuted : (room : ℕ) (ts : List Kind) (f : Fault) (rest : List Kind) → UnitStop room ts f rest
    → (any : ℕ) → Wider f room any → (front w : List Kind) → ts ≡ front ++ rest → first rest ≡ first w → (u : declared.Unit) → IsReading any u (front ++ w) → ⊥
refuted room ts f rest stuck any wider front w e same u is =
    let a = stuck.alone any w wider same in
    let fronts : a.1.front ≡ front = front_is ts a.1.front rest a.1.one ∙ sym (front_is ts front rest e) in
    let us : a.0 ≡ tokens_of u = a.1.two ∙ ap (λ (l : List Kind). l ++ w) fronts ∙ sym is.written in
    err_ok (sym a.2 ∙ ap (unit any) us ∙ units_complete any (plain_unit u) is.shaped is.low)

-- what a tree that is begun begins with
begins : (most : ℕ) (front rest ts : List Kind) → ts ≡ front ++ rest → Begun (IsUnitOf most) write_unit rest ts → Begins most front
begins most front rest ts e b =
    let a = b.alike [] in
    let fronts : a.front ≡ front = front_is ts a.front rest a.one ∙ sym (front_is ts front rest e) in
    (tree_unit b.tree, b.more [], from_plain most b.tree (front ++ b.more []) (record { is = b.is; written = sym (written_whole b.tree) ∙ a.two ∙ ap (λ (l : List Kind). l ++ b.more []) fronts }))

-- whatever the depth, if the fault is the same there
no_more : (room : ℕ) (ts : List Kind) (f : Fault) (rest : List Kind) → UnitStop room ts f rest
    → (any : ℕ) → Wider f room any → (front : List Kind) → ts ≡ front ++ rest → length ts - length rest < length ts → Begins any (take (length ts - length rest + 1) ts) → ⊥
no_more room ts f [] stuck any wider front e within b = omega arith
no_more room ts f (k ∷ rest) stuck any wider front e within b =
    refuted room ts f (k ∷ rest) stuck any wider front (k ∷ b.1) e refl b.0
    (subst (IsReading any b.0) (ap (λ (l : List Kind). l ++ b.1) (front_more ts front rest k e) ∙ append_assoc front (k ∷ []) b.1) b.2)

no_whole : (room : ℕ) (ts : List Kind) (f : Fault) (rest : List Kind) → UnitStop room ts f rest
    → (any : ℕ) → Wider f room any → (front : List Kind) → ts ≡ front ++ rest → length ts - length rest ≡ length ts → (u : declared.Unit) → IsReading any u ts → ⊥
no_whole room ts f rest stuck any wider front e end u is = refuted room ts f rest stuck any wider front rest e refl u (subst (IsReading any u) e is)

is_wide : (f : Fault) (room : ℕ) → (f ≡ OutOfMemory → ⊥) → Wider f room room
is_wide NoTree room h = omega arith
is_wide TooDeep room h = refl
is_wide OutOfMemory room h = absurd (h refl)

first_fault : (room : ℕ) (ts : List Kind) (f : Fault) (rest : List Kind) → (f ≡ OutOfMemory → ⊥) → UnitStop room ts f rest → IsFirstFault room ts (length ts - length rest)
first_fault room ts f rest known stuck =
    let a = stuck.viable.alike [] in
    record {
      within = omega arith;
      before = subst (Begins room) (front_is ts a.front rest a.one) (begins room a.front rest ts a.one stuck.viable);
      through = no_more room ts f rest stuck room (is_wide f room known) a.front a.one;
      whole = no_whole room ts f rest stuck room (is_wide f room known) a.front a.one;
    }

-- the depth that the fault stands at, and any above or below it
lower : (any other : ℕ) (front : List Kind) → any ≤ other → Begins any front → Begins other front
lower any other front le b = (b.0, b.1, record { shaped = b.2.shaped; low = let l = b.2.low in omega arith; written = b.2.written })

pub no_tree_at : (room : ℕ) (ts rest : List Kind) → UnitStop room ts NoTree rest → IsNoTree room ts (length ts - length rest)
no_tree_at room ts rest stuck =
    let a = stuck.viable.alike [] in
    record {
      first = first_fault room ts NoTree rest (λ e. absurd (cc)) stuck;
      through = λ any within b. no_more room ts NoTree rest stuck (max room any) (omega arith) a.front a.one within (lower any (max room any) _ (omega arith) b);
      whole = λ any end u is. no_whole room ts NoTree rest stuck (max room any) (omega arith) a.front a.one end u (record { shaped = is.shaped; low = let l = is.low in omega arith; written = is.written });
    }

pub too_deep_at : (room : ℕ) (ts rest : List Kind) → UnitStop room ts TooDeep rest → IsTooDeep room ts (length ts - length rest)
too_deep_at room ts [] stuck = absurd stuck.deeper
too_deep_at room ts (k ∷ rest) stuck =
    let a = stuck.viable.alike [] in
    let longer : ts ≡ (a.front ++ k ∷ []) ++ rest = a.one ∙ sym (append_assoc a.front (k ∷ []) rest) in
    record {
      first = first_fault room ts TooDeep (k ∷ rest) (λ e. absurd (cc)) stuck;
      within = omega (arith, ap (λ (l : List Kind). length l) a.one, length-append a.front (k ∷ rest));
      deeper = (stuck.deeper.0, subst (Begins stuck.deeper.0) (sym (front_more ts a.front rest k a.one)) (begins stuck.deeper.0 (a.front ++ k ∷ []) rest ts longer stuck.deeper.1));
    }

pub no_tree : (most : ℕ) (ts rest : List Kind) → 1 ≤ most → unit most ts ≡ Err (NoTree, rest) → IsNoTree most ts (length ts - length rest)
no_tree most ts rest some h = no_tree_at most ts rest (units_stuck most ts NoTree rest some h)

pub too_deep : (most : ℕ) (ts rest : List Kind) → 1 ≤ most → unit most ts ≡ Err (TooDeep, rest) → IsTooDeep most ts (length ts - length rest)
too_deep most ts rest some h = too_deep_at most ts rest (units_stuck most ts TooDeep rest some h)

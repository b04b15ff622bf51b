-- Calls behind a dot, and instances of classes.
use Rattle.std.proofs.Common.{◌≡◌, refl, sym, ◌∙◌, ap, subst, ℕ, ◌+◌, ◌<◌, ◌^◌, Bool, true, false, cond, [], ◌∷◌, ◌++◌, Option, Some, None, nat_eq, nat_lt}
use Rattle.std.proofs.lemmas.Bool.{false≢true}
use Rattle.std.proofs.lemmas.Bool.Decides.{Decides-eqb, Decides-ltb}
use Rattle.std.specs.Prelude.{option_map}
use Rattle.jr_core.specs.declared.code.Code.{Code}
use Rattle.jr_core.specs.declared.code.Code.TheVariants as c
use Rattle.jr_tree.specs.Rows.{end}
use Rattle.jr_codes.specs.declared.source.Source.{Source}
use Rattle.jr_codes.specs.Facts.{Facts}
use Rattle.jr_codes.specs.Making.{Below, code_if, AreBefore, Parted, Stands}
use Rattle.jr_codes.specs.Waiting.{is_top, TakesIf}
use Rattle.jr_expressions.specs.Names.{this_in, class_of_this, this_made}
use Rattle.jr_expressions.specs.Calls.{arguments, call_on, call_behind}
use Rattle.jr_codes.specs.Reads.{rows_of, facts, child_of, IsReadAt, Becomes}
use Rattle.jr_expressions.proofs.Standing.{found, none_becomes}
use Rattle.jr_expressions.proofs.Operated.{one_counted}
use Rattle.jr_expressions.proofs.Passed.{top_taken}

pub this_becomes : {s : Source} {n class : ℕ} {old new : Below} (is_qualified : Bool) → (IsReadAt s n → Some class ≡ class_of_this (facts s) n is_qualified) → new ≡ (n, this_in (facts s) class) ∷ old
    → Becomes s n (λ parts. this_made (facts s) n is_qualified parts) old new
this_becomes {s} {n} {class} {old} {new} is_qualified is st = record {
  stands = λ read parts rest h lone. (none_becomes {s = s} {n = n} (code_if (option_map (this_in (facts s)) (class_of_this (facts s) n is_qualified)))
      (found (option_map (this_in (facts s)) (class_of_this (facts s) n is_qualified)) (this_in (facts s) class) n old new (ap (option_map (this_in (facts s))) (sym (is read))) st)).stands read parts rest h lone;
}

-- what comes of the arguments stands there whatever the parts were
if_stands : (o : Option Code) (n : ℕ) (parts more rest new : Below) → Stands (code_if o) n parts rest new → Stands (code_if o) n more rest new
if_stands None n parts more rest new st = st
if_stands (Some x) n parts more rest new st = st

-- the first part inside the row is not that of its child
pub away_of : (r : ℕ) (old parts rest : Below) → old ≡ parts ++ rest → is_top r old ≡ false → is_top r parts ≡ false
away_of r old [] rest is top = refl
away_of r old (p ∷ ps) rest is top = sym (ap (is_top r) is) ∙ top

not_same : (b : Bool) (k r e : ℕ) → nat_eq k r ≡ b → k < e → nat_lt r e ≡ false → b ≡ false
not_same true k r e same lt apart = absurd (false≢true (sym apart ∙ (Decides-ltb r e).1 (subst (λ x. x < e) ((Decides-eqb k r).0 same) lt)))
not_same false k r e same lt apart = refl

pub away_inside : (r e : ℕ) (parts : Below) → AreBefore e parts → nat_lt r e ≡ false → is_top r parts ≡ false
away_inside r e [] inside apart = refl
away_inside r e (p ∷ ps) inside apart = not_same (nat_eq p.0 r) p.0 r e refl inside.0 apart

left_stands : (f : Facts) (n m : ℕ) (parts rest new : Below) → is_top (n + 1) parts ≡ false → Stands (call_on f m None false parts) n parts rest new → Stands (call_behind f n m parts) n parts rest new
left_stands f n m [] rest new away st = st
left_stands f n m (p ∷ ps) rest new away st =
    subst (λ b. Stands (cond b (call_on f m (Some p.1) false ps) (call_on f m None false (p ∷ ps))) n (p ∷ ps) rest new) (sym away) st

taken_stands : (f : Facts) (n m : ℕ) (a : Code) (more rest new : Below) → Stands (call_on f m (Some a) false more) n more rest new
    → Stands (call_behind f n m ((n + 1, a) ∷ more)) n ((n + 1, a) ∷ more) rest new
taken_stands f n m a more rest new st =
    subst (λ b. Stands (cond b (call_on f m (Some a) false more) (call_on f m None false ((n + 1, a) ∷ more))) n ((n + 1, a) ∷ more) rest new) (sym ((Decides-eqb (n + 1) (n + 1)).1 refl))
    (if_stands (option_map (c.Call (Some a) false (f.decl m)) (arguments f m more)) n more ((n + 1, a) ∷ more) rest new st)

where_child : (b : Bool) (on : Option Code) (f : Facts) (n m e : ℕ) (old mid parts rest new : Below) → nat_lt (n + 1) e ≡ b → TakesIf (cond b (Some (n + 1)) None) old mid on → Parted e old parts rest
    → ((more : Below) → Parted e mid more rest → Stands (call_on f m on false more) n more rest new) → Stands (call_behind f n m parts) n parts rest new
where_child true (Some a) f n m e old mid parts rest new child took h next =
    let top = top_taken e (n + 1) a mid parts rest child (subst (λ all. Parted e all parts rest) took h) in
    subst (λ ps. Stands (call_behind f n m ps) n ps rest new) (sym top.is) (taken_stands f n m a top.more rest new (next top.more top.parted))
where_child true None f n m e old mid parts rest new child took h next =
    left_stands f n m parts rest new (away_of (n + 1) old parts rest h.is took.0) (next parts (subst (λ all. Parted e all parts rest) (sym took.1) h))
where_child false on f n m e old mid parts rest new child took h next =
    left_stands f n m parts rest new (away_inside (n + 1) e parts h.inside child)
    (subst (λ o. Stands (call_on f m o false parts) n parts rest new) took.0 (next parts (subst (λ all. Parted e all parts rest) (sym took.1) h)))

pub behind_becomes : {s : Source} {n : ℕ} (m : ℕ) {child : Option ℕ} (on : Option Code) {old mid new : Below} → (n + 1 < 2 ^ 32 → child ≡ child_of (rows_of s) n) → TakesIf child old mid on
    → Becomes s n (λ parts. call_on (facts s) m on false parts) mid new → Becomes s n (λ parts. call_behind (facts s) n m parts) old new
behind_becomes {s} {n} m {child} on {old} {mid} {new} same took becomes = record {
  stands = λ read parts rest h lone. where_child (nat_lt (n + 1) (end (rows_of s) n)) on (facts s) n m (end (rows_of s) n) old mid parts rest new refl
      (subst (λ k. TakesIf k old mid on) (same (one_counted read)) took) h (λ more p. becomes.stands read more rest p lone);
}

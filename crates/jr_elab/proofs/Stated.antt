-- Statements, from what their functions call.
use Rattle.std.proofs.Common.{◌≡◌, refl, sym, ◌∙◌, ap, subst, ℕ, ◌+◌, ◌<◌, ◌^◌, Bool, true, false, cond, List, [], ◌∷◌, ◌++◌, length, Option, Some, None, nat_lt}
use Rattle.std.proofs.lemmas.Bool.Decides.{Decides-eqb}
use Rattle.std.specs.Prelude.{option_map}
use Rattle.jr_core.specs.declared.code.Code.{Code}
use Rattle.jr_core.specs.declared.code.Code.TheVariants as c
use Rattle.jr_tree.specs.Rows.{end}
use Rattle.jr_codes.specs.declared.source.Source.{Source}
use Rattle.jr_codes.specs.Facts.{Facts}
use Rattle.jr_base.specs.declared.ids.DeclId.{DeclId}
use Rattle.jr_codes.specs.Making.{Below, code, unknown, code_if, Parted, Stands}
use Rattle.jr_codes.specs.Waiting.{front, behind, TakesIf, TakesFront}
use Rattle.jr_codes.specs.Reads.{rows_of, facts, child_of, Becomes}
use Rattle.jr_expressions.specs.Expressions.{codes_of}
use Rattle.jr_expressions.specs.Statements.{local_made, jump_target, jump_made}
use Rattle.jr_expressions.proofs.Standing.{found, left_count, none_becomes}
use Rattle.jr_expressions.proofs.Operated.{one_counted}
use Rattle.jr_expressions.proofs.Initialized.{front_parted, behind_parted}
use Rattle.jr_elab.proofs.Left.{parts_taken}

pub nest_becomes : {s : Source} {n e : ℕ} {all : List Code} {old left new : Below} → (n + 1 < 2 ^ 32 → e ≡ end (rows_of s) n) → TakesFront e old left all → new ≡ (n, c.Nest all) ∷ left
    → Becomes s n (λ parts. code (c.Nest (codes_of parts))) old new
nest_becomes {s} {n} {e} {all} {old} {left} {new} same takes st = record {
  stands = λ read parts rest h one.
      let p : Parted e old parts rest = subst (λ k. Parted k old parts rest) (sym (same (one_counted read))) h in
      st ∙ ap (λ xs. (n, c.Nest xs) ∷ left) (takes.taken ∙ ap (front e) p.is ∙ front_parted e parts rest p.inside p.after)
      ∙ ap (λ r. (n, c.Nest (codes_of parts)) ∷ r) (takes.left ∙ ap (behind e) p.is ∙ behind_parted e parts rest p.inside p.after);
}

-- ---- one declared variable

local_none : (f : Facts) (n : ℕ) (old new parts rest : Below) → old ≡ parts ++ rest → new ≡ (n, c.Local (f.decl n) None) ∷ old → length old ≡ length rest → Stands (local_made f n parts) n parts rest new
local_none f n old new parts rest is st same =
    let taken = parts_taken [] parts old rest is same in
    subst (λ ps. Stands (local_made f n ps) n ps rest new) (sym taken.0) (st ∙ ap (λ r. (n, c.Local (f.decl n) None) ∷ r) taken.1)

local_one : (f : Facts) (n : ℕ) (a : Code) (mid new parts rest : Below) → (n + 1, a) ∷ mid ≡ parts ++ rest → new ≡ (n, c.Local (f.decl n) (Some a)) ∷ mid → length mid ≡ length rest
    → Stands (local_made f n parts) n parts rest new
local_one f n a mid new parts rest is st same =
    let taken = parts_taken ((n + 1, a) ∷ []) parts mid rest is same in
    subst (λ ps. Stands (local_made f n ps) n ps rest new) (sym taken.0)
    (subst (λ b. Stands (cond b (code (c.Local (f.decl n) (Some a))) unknown) n ((n + 1, a) ∷ []) rest new) (sym ((Decides-eqb (n + 1) (n + 1)).1 refl))
    (st ∙ ap (λ r. (n, c.Local (f.decl n) (Some a)) ∷ r) taken.1))

local_where : (b : Bool) (on : Option Code) (f : Facts) (n : ℕ) (old mid parts rest new : Below) → TakesIf (cond b (Some (n + 1)) None) old mid on → old ≡ parts ++ rest
    → new ≡ (n, c.Local (f.decl n) on) ∷ mid → length mid ≡ length rest → Stands (local_made f n parts) n parts rest new
local_where true (Some a) f n old mid parts rest new took is st same = local_one f n a mid new parts rest (sym took ∙ is) st same
local_where true None f n old mid parts rest new took is st same = local_none f n mid new parts rest (took.1 ∙ is) st same
local_where false on f n old mid parts rest new took is st same =
    local_none f n mid new parts rest (took.1 ∙ is) (st ∙ ap (λ o. (n, c.Local (f.decl n) o) ∷ mid) took.0) same

pub local_becomes : {s : Source} {n : ℕ} {child : Option ℕ} (on : Option Code) {old mid new : Below} → (n + 1 < 2 ^ 32 → child ≡ child_of (rows_of s) n) → TakesIf child old mid on
    → new ≡ (n, c.Local ((facts s).decl n) on) ∷ mid → Becomes s n (λ parts. local_made (facts s) n parts) old new
local_becomes {s} {n} {child} on {old} {mid} {new} same took st = record {
  stands = λ read parts rest h one. local_where (nat_lt (n + 1) (end (rows_of s) n)) on (facts s) n old mid parts rest new
      (subst (λ k. TakesIf k old mid on) (same (one_counted read)) took) h.is st (left_count rest st one);
}

pub jump_becomes : {s : Source} {n : ℕ} {label : Option DeclId} {old new : Below} (g : Option DeclId → Code) (has_label : Bool) → jump_target (facts s) n has_label ≡ Some label → new ≡ (n, g label) ∷ old
    → Becomes s n (λ parts. jump_made g (facts s) n has_label parts) old new
jump_becomes {s} {n} {label} {old} {new} g has_label is st =
    none_becomes (code_if (option_map g (jump_target (facts s) n has_label))) (found (option_map g (jump_target (facts s) n has_label)) (g label) n old new (ap (option_map g) is) st)

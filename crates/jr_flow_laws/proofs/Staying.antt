-- A body by itself stands in its own program as it stands.
use Rattle.std.proofs.Common.{◌≡◌, refl, sym, ◌∙◌, ap, subst, arith, ℕ, ◌+◌, Bool, true, false, ◌&&◌, if◌then◌else◌, nat_le, nat_lt}
use Rattle.jr_tree.specs.Rows.{Rows, label, parent, end}
use Rattle.jr_defs.specs.declared.referent.Referent.{Referent}
use Rattle.jr_defs.specs.declared.referent.Referent.TheVariants.{Unbound, Ambiguous, ArrayLength, Package, Declared}
use Rattle.jr_flow_defs.specs.Meaning.{Meaning, is_constant, is_text, is_shown, narrows}
use Rattle.jr_flow_laws.specs.Shifted.{IsWholeBody, moved_row, IsMovedReferent, AreShiftedRows}

stay : (n : ℕ) → n + 0 ≡ n
stay n = omega arith

module _ (f : ℕ → ℕ) (same : (n : ℕ) → f n ≡ n) where
  referent_same : (a : Referent) → IsMovedReferent f a a
  referent_same Unbound = IsMovedReferent.unbound
  referent_same Ambiguous = IsMovedReferent.ambiguous
  referent_same ArrayLength = IsMovedReferent.array_length
  referent_same Package = IsMovedReferent.a_package
  referent_same (Declared d level) = subst (λ z. IsMovedReferent f (Declared d level) (Declared z level)) (same d) IsMovedReferent.declared

module _ (p : Rows) (m : Meaning) (body : ℕ) (whole : IsWholeBody p m body) where
  abbrev move : ℕ → ℕ
  move = moved_row p body 0 (λ n. n)

  in_place : (n : ℕ) → move n ≡ n
  in_place n = by_test (nat_le body n && nat_lt n (end p body)) where
    by_test : (t : Bool) → (if t then n + 0 else n) ≡ n
    by_test true = stay n
    by_test false = refl

  pub body_stays : AreShiftedRows p p m m body 0 (λ n. n)
  body_stays = record {
    few = let l = whole.tree.last body whole.few in omega (arith, l);
    labels = λ n i. ap (label p) (stay n);
    ends = λ n i. ap (end p) (stay n) ∙ sym (stay (end p n));
    parents = λ n i less. ap (parent p) (stay n) ∙ sym (stay (parent p n));
    referents = λ n i. subst (λ k. IsMovedReferent move (m.targets n) (m.targets k)) (sym (stay n)) (referent_same move in_place (m.targets n));
    roles = λ n d level i e none. refl;
    constants = λ n i. ap (is_constant m) (stay n);
    texts = λ n i. ap (λ k. is_text p (m.types k)) (stay n);
    shown = λ n i. ap (λ k. is_shown p (m.types k)) (stay n);
    casts = λ n i e. ap (narrows p m) (stay n);
  }

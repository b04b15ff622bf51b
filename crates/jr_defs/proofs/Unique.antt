-- A set of candidates has one answer.
use Rattle.std.proofs.Common.{◌≡◌, ◌⊎◌, ℕ, refl, sym, ◌∙◌, ap, subst, inl, inr}
use Rattle.std.specs.Prelude.{Option, codes}
use Rattle.jr_base.specs.declared.text.Text.{Text}
use Rattle.jr_tree.specs.declared.label.Sought.{Sought}
use Rattle.jr_tree.specs.Rows.{Rows}
use Rattle.jr_defs.specs.declared.referent.Referent.{Referent}
use Rattle.jr_defs.specs.declared.referent.Referent.TheVariants.{Unbound, Ambiguous, ArrayLength, Package, Declared}
use Rattle.jr_defs.specs.Referents.{Table, IsAnswer, one, none, several}
use Rattle.jr_defs.specs.Lookup.{Otherwise, package_name, length, unbound, IsPackageName, IsLength, LookFor}

-- of the answers for want of a candidate there is one
abbrev pub IsOne : (Referent → Type 0) → Type 0
IsOne Q = (a b : Referent) → Q a → Q b → a ≡ b

pub answer_unique : (C : ℕ → Option ℕ → Type 0) (Q : Referent → Type 0) → IsOne Q → (a b : Referent) → IsAnswer C Q a → IsAnswer C Q b → a ≡ b
answer_unique C Q only _ _ (one d l h same) (one e m k other) = let w = other d l h in let x = w.0 in let y = w.1 in cc
answer_unique C Q only _ b (one d l h same) (none never q) = absurd (never d l h)
answer_unique C Q only _ _ (one d l h same) (several e r m k i j apart) =
    let v = same e m i in let w = same r k j in let x = v.0 in let y = v.1 in let z = w.0 in let a = w.1 in absurd (apart (x ∙ sym z, y ∙ sym a))
answer_unique C Q only a _ (none never q) (one e m k other) = absurd (never e m k)
answer_unique C Q only a b (none never q) (none no' r) = only a b q r
answer_unique C Q only a _ (none never q) (several e r m k i j apart) = absurd (never e m i)
answer_unique C Q only _ _ (several e r m k i j apart) (one d l h same) =
    let v = same e m i in let w = same r k j in let x = v.0 in let y = v.1 in let z = w.0 in let a = w.1 in absurd (apart (x ∙ sym z, y ∙ sym a))
answer_unique C Q only _ b (several e r m k i j apart) (none never q) = absurd (never e m i)
answer_unique C Q only _ _ (several e r m k i j apart) (several e' r' m' k' i' j' apart') = refl

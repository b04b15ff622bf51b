-- Which labels act in which way, and loops behind labels.
use Rattle.std.proofs.Common.{◌≡◌, refl, sym, ◌∙◌, ap, subst, ⊎_elim, arith, ℕ, ◌+◌, ◌<◌, ◌≤◌, ◌^◌, Bool, true, false, if◌then◌else◌, length, Option, Some, None}
use Rattle.std.proofs.lemmas.Bool.{false≢true, cases_lt}
use Rattle.jr_tree.specs.declared.label.Label.{Label}
use Rattle.jr_tree.specs.declared.label.Label.TheVariants as is
use Rattle.jr_tree.specs.declared.label.Modifiers.{Modifiers}
use Rattle.jr_tree.specs.Rows.{Rows, label}
use Rattle.jr_plain.proofs.Bounds.{bounded, label_past}
use Rattle.jr_flow_defs.specs.Acts.{is_loop}
use Rattle.jr_flow.specs.Seen.{is_direct, is_statement}

pub loop_inside : (p : Rows) (n : ℕ) → is_loop (label p n) ≡ true → n < length p
loop_inside p n e = bounded (λ l. is_loop l ≡ true) (λ h. false≢true h) p n e

pub loop_found : (p : Rows) (n below : ℕ) → below ≡ n + 1 → is_loop (label p below) ≡ true → Some below ≡ (if is_loop (label p (n + 1)) then Some (n + 1) else None)
loop_found p n below e test = ap Some e ∙ sym (ap (λ b. if b then Some (n + 1) else None) (ap (λ k. is_loop (label p k)) (sym e) ∙ test))

pub no_loop : (p : Rows) (n : ℕ) → is_loop (label p (n + 1)) ≡ false → None ≡ (if is_loop (label p (n + 1)) then Some (n + 1) else None)
no_loop p n test = sym (ap (λ b. if b then Some (n + 1) else None) test)

pub no_loop_past : (p : Rows) (n : ℕ) → length p ≤ n → is_loop (label p n) ≡ false
no_loop_past p n le = ap is_loop (label_past p n le)

pub other_direct : (l : Label) → ((modifiers : Modifiers) (is_void has_body : Bool) → l ≡ is.Method modifiers is_void has_body → ⊥) → ((modifiers : Modifiers) → l ≡ is.Constructor modifiers → ⊥)
    → ((modifiers : Modifiers) (dims : ℕ) → l ≡ is.Field modifiers dims → ⊥) → ((is_final : Bool) (dims : ℕ) → l ≡ is.Parameter is_final dims → ⊥) → ((is_final : Bool) (dims : ℕ) → l ≡ is.Local is_final dims → ⊥)
    → (l ≡ is.Skip → ⊥) → (l ≡ is.Eval → ⊥) → (l ≡ is.Locals → ⊥) → (l ≡ is.Case → ⊥) → ((has_finally : Bool) → l ≡ is.Try has_finally → ⊥) → is_direct l ≡ false
other_direct (is.Method modifiers is_void has_body) h _ _ _ _ _ _ _ _ _ = absurd (h modifiers is_void has_body refl)
other_direct (is.Constructor modifiers) _ h _ _ _ _ _ _ _ _ = absurd (h modifiers refl)
other_direct (is.Field modifiers dims) _ _ h _ _ _ _ _ _ _ = absurd (h modifiers dims refl)
other_direct (is.Parameter is_final dims) _ _ _ h _ _ _ _ _ _ = absurd (h is_final dims refl)
other_direct (is.Local is_final dims) _ _ _ _ h _ _ _ _ _ = absurd (h is_final dims refl)
other_direct is.Skip _ _ _ _ _ h _ _ _ _ = absurd (h refl)
other_direct is.Eval _ _ _ _ _ _ h _ _ _ = absurd (h refl)
other_direct is.Locals _ _ _ _ _ _ _ h _ _ = absurd (h refl)
other_direct is.Case _ _ _ _ _ _ _ _ h _ = absurd (h refl)
other_direct (is.Try has_finally) _ _ _ _ _ _ _ _ _ h = absurd (h has_finally refl)
other_direct _ _ _ _ _ _ _ _ _ _ _ = refl

pub other_branch : (l : Label) → is_direct l ≡ false → (l ≡ is.If → ⊥) → (l ≡ is.While → ⊥) → (l ≡ is.Do → ⊥) → ((has_first has_condition : Bool) → l ≡ is.For has_first has_condition → ⊥) → (l ≡ is.Switch → ⊥)
    → ((has_label : Bool) → l ≡ is.Break has_label → ⊥) → ((has_label : Bool) → l ≡ is.Continue has_label → ⊥) → (l ≡ is.Return → ⊥) → (l ≡ is.Throw → ⊥) → is_statement l ≡ false
other_branch (is.Method modifiers is_void has_body) e _ _ _ _ _ _ _ _ _ = absurd (false≢true (sym e))
other_branch (is.Constructor modifiers) e _ _ _ _ _ _ _ _ _ = absurd (false≢true (sym e))
other_branch (is.Field modifiers dims) e _ _ _ _ _ _ _ _ _ = absurd (false≢true (sym e))
other_branch (is.Parameter is_final dims) e _ _ _ _ _ _ _ _ _ = absurd (false≢true (sym e))
other_branch (is.Local is_final dims) e _ _ _ _ _ _ _ _ _ = absurd (false≢true (sym e))
other_branch is.Skip e _ _ _ _ _ _ _ _ _ = absurd (false≢true (sym e))
other_branch is.Eval e _ _ _ _ _ _ _ _ _ = absurd (false≢true (sym e))
other_branch is.Locals e _ _ _ _ _ _ _ _ _ = absurd (false≢true (sym e))
other_branch is.Case e _ _ _ _ _ _ _ _ _ = absurd (false≢true (sym e))
other_branch (is.Try has_finally) e _ _ _ _ _ _ _ _ _ = absurd (false≢true (sym e))
other_branch is.If _ h _ _ _ _ _ _ _ _ = absurd (h refl)
other_branch is.While _ _ h _ _ _ _ _ _ _ = absurd (h refl)
other_branch is.Do _ _ _ h _ _ _ _ _ _ = absurd (h refl)
other_branch (is.For has_first has_condition) _ _ _ _ h _ _ _ _ _ = absurd (h has_first has_condition refl)
other_branch is.Switch _ _ _ _ _ h _ _ _ _ = absurd (h refl)
other_branch (is.Break has_label) _ _ _ _ _ _ h _ _ _ = absurd (h has_label refl)
other_branch (is.Continue has_label) _ _ _ _ _ _ _ h _ _ = absurd (h has_label refl)
other_branch is.Return _ _ _ _ _ _ _ _ h _ = absurd (h refl)
other_branch is.Throw _ _ _ _ _ _ _ _ _ h = absurd (h refl)
other_branch _ _ _ _ _ _ _ _ _ _ _ = refl

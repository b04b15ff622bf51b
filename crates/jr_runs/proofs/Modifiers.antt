-- Modifiers are the same where each of them is.
use Rattle.std.proofs.Common.{◌≡◌, refl, sym, ◌∙◌, subst, Bool, true, false, ◌&&◌}
use Rattle.std.proofs.lemmas.Bool.{false≢true}
use mathlib.Core.Bool.{beq}
use Rattle.jr_tree.specs.declared.label.Modifiers.{Modifiers}

make : Bool → Bool → Bool → Bool → Bool → Bool → Bool → Modifiers
make a b c d e f g = record { is_public = a; is_protected = b; is_private = c; is_abstract = d; is_static = e; is_final = f; is_native = g }

made : (m : Modifiers) → m ≡ make m.is_public m.is_protected m.is_private m.is_abstract m.is_static m.is_final m.is_native
unfolding make
made m = refl

same_made : (a b c d e f g h i j k l m n : Bool) → a ≡ h → b ≡ i → c ≡ j → d ≡ k → e ≡ l → f ≡ m → g ≡ n → make a b c d e f g ≡ make h i j k l m n
same_made a b c d e f g h i j k l m n p q r s t u v = cc

alike : (a b : Bool) → beq a b ≡ true → a ≡ b
alike true true h = refl
alike true false h = absurd (false≢true h)
alike false true h = absurd (false≢true h)
alike false false h = refl

itself : (a : Bool) → beq a a ≡ true
itself true = refl
itself false = refl

first : (a b : Bool) → (a && b) ≡ true → a ≡ true
first true b h = refl
first false b h = h

rest : (a b : Bool) → (a && b) ≡ true → b ≡ true
rest true b h = h
rest false b h = absurd (false≢true h)

both : (a b : Bool) → a ≡ true → b ≡ true → (a && b) ≡ true
both true b h k = k
both false b h k = h

abbrev each_same : Modifiers → Modifiers → Bool
each_same a b = beq a.is_public b.is_public && (beq a.is_protected b.is_protected && (beq a.is_private b.is_private && (beq a.is_abstract b.is_abstract && (beq a.is_static b.is_static && (beq a.is_final b.is_final && beq a.is_native b.is_native)))))

pub all_same : (a b : Modifiers) → each_same a b ≡ true → a ≡ b
all_same a b h1 =
    let h2 = rest _ _ h1 in
    let h3 = rest _ _ h2 in
    let h4 = rest _ _ h3 in
    let h5 = rest _ _ h4 in
    let h6 = rest _ _ h5 in
    let h7 = rest _ _ h6 in
    made a ∙ same_made _ _ _ _ _ _ _ _ _ _ _ _ _ _ (alike _ _ (first _ _ h1)) (alike _ _ (first _ _ h2)) (alike _ _ (first _ _ h3)) (alike _ _ (first _ _ h4))
    (alike _ _ (first _ _ h5)) (alike _ _ (first _ _ h6)) (alike _ _ h7) ∙ sym (made b)

each_itself : (a : Modifiers) → each_same a a ≡ true
each_itself a = both _ _ (itself a.is_public) (both _ _ (itself a.is_protected) (both _ _ (itself a.is_private) (both _ _ (itself a.is_abstract) (both _ _ (itself a.is_static) (both _ _ (itself a.is_final) (itself a.is_native))))))

pub same_each : (a b : Modifiers) → a ≡ b → each_same a b ≡ true
same_each a b e = subst (λ m. each_same a m ≡ true) e (each_itself a)

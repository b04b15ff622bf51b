-- The innermost row round another with a label of a kind.
use Rattle.std.proofs.Common.{◌≡◌, ℕ, zero, suc, ◌+◌, ◌-◌, ◌<◌, ◌≤◌, Bool, true, false, if◌then◌else◌, Option, Some, None, refl, sym, ◌∙◌, ap, arith}
use Rattle.jr_tree.specs.declared.label.Label.{Label}
use Rattle.jr_tree.specs.Rows.{Rows, label, parent}
use Rattle.jr_flow_defs.specs.Acts.{around}
use Rattle.jr_flow.proofs.Siblings.{room_left}

around_by : (p : Rows) (test : Label → Bool) (room n : ℕ) (b : Bool) → test (label p (parent p n)) ≡ b → around p test (suc room) n ≡ (if b then Some (parent p n) else around p test room (parent p n))
around_by p test room n b e = ap (λ t. if t then Some (parent p n) else around p test room (parent p n)) e

pub around_next : (p : Rows) (test : Label → Bool) (o : Option ℕ) (room turn n over : ℕ) → turn < room → over ≡ parent p n → test (label p over) ≡ false → around p test (room - turn) n ≡ o → around p test (room - (turn + 1)) over ≡ o
around_next p test o room turn n over lt is fails h = rw is (sym (around_by p test (room - (turn + 1)) n false (ap (λ k. test (label p k)) (sym is) ∙ fails)) ∙ ap (λ r. around p test r n) (sym (room_left room turn lt)) ∙ h)

pub around_found : (p : Rows) (test : Label → Bool) (o : Option ℕ) (room turn n over : ℕ) → turn < room → over ≡ parent p n → test (label p over) ≡ true → around p test (room - turn) n ≡ o → Some over ≡ o
around_found p test o room turn n over lt is passes h = ap Some is ∙ sym (around_by p test (room - (turn + 1)) n true (ap (λ k. test (label p k)) (sym is) ∙ passes)) ∙ ap (λ r. around p test r n) (sym (room_left room turn lt)) ∙ h

-- a row that is its own parent
around_still : (p : Rows) (test : Label → Bool) (room n : ℕ) → parent p n ≡ n → test (label p (parent p n)) ≡ false → around p test room n ≡ None
around_still p test zero n is fails = refl
around_still p test (suc room) n is fails = around_by p test room n false fails ∙ ap (around p test room) is ∙ around_still p test room n is fails

pub around_ends : (p : Rows) (test : Label → Bool) (o : Option ℕ) (room n over : ℕ) → over ≡ parent p n → test (label p over) ≡ false → over ≡ n → around p test room n ≡ o → None ≡ o
around_ends p test o room n over is fails still h = sym (around_still p test room n (sym is ∙ still) (ap (λ k. test (label p k)) (sym is) ∙ fails)) ∙ h

pub around_none : (p : Rows) (test : Label → Bool) (o : Option ℕ) (room turn n : ℕ) → room ≤ turn → around p test (room - turn) n ≡ o → None ≡ o
around_none p test o room turn n le h = let e : room - turn ≡ 0 = omega arith in ap (λ r. around p test r n) (sym e) ∙ h

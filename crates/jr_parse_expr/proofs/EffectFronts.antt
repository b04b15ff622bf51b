-- What stands in front of a statement's expression can become a statement, within the levels that there are.
use Rattle.std.proofs.Common.{◌≡◌, ℕ, zero, suc, ◌≤◌, Bool, true, false, not, cond, ltb, List, [], ◌∷◌, ◌++◌, length, Option, Some, None, Ok, Err, refl, sym, ap, ◌∙◌, subst, inl, inr, arith}
use Rattle.std.proofs.lemmas.Bool.{ltb-false, le-ltb, true≢false}
use Rattle.jr_base.specs.declared.text.Text.{Text}
use Rattle.jr_base.specs.declared.kind.Kind.{Kind}
use Rattle.jr_base.specs.declared.kind.Kind.TheVariants as kind
use Rattle.jr_base.specs.declared.kind.Symbol.{Symbol}
use Rattle.jr_base.specs.declared.kind.Symbol.TheVariants as y
use Rattle.jr_base.specs.declared.kind.Keyword.TheVariants as k
use Rattle.jr_tree.specs.declared.tree.Name.{Name}
use Rattle.jr_tree.specs.declared.tree.Primitive.{Primitive}
use Rattle.jr_tree.specs.declared.tree.Base.{Base}
use Rattle.jr_tree.specs.declared.tree.Base.TheVariants as base
use Rattle.jr_tree.specs.Levels.{is_step}
use Rattle.jr_tree.specs.Shape.{level, is_least, is_statement, is_new_array, IsName, IsShapedExpr}
use Rattle.jr_tree.specs.Depth.{expr_depth}
use Rattle.jr_tree.specs.Mirror.Exprs as x
use Rattle.jr_parse_laws.specs.declared.fault.Fault.TheVariants.{NoTree}
use Rattle.jr_parse_laws.specs.Parsers.{Outcome, Parser, and_then, is_symbol, expect, identifier, pure, ◌>>=◌, ◌>>◌}
use Rattle.jr_parse_laws.proofs.Outcomes.{bind_ok, chosen, ok_is, err_ok}
use Rattle.jr_parse_laws.proofs.Exact.{expect_sound}
use Rattle.jr_parse_starts.specs.Starts.{is_plain_literal, within}
use Rattle.jr_parse_expr.specs.Names.{name_of, name, primitive_at, dims, Dotted, Plain, Enclosing, dotted_from, dotted}
use Rattle.jr_parse_expr.specs.Exprs as reader
use Rattle.jr_parse_expr.specs.Exprs.{Lead, Nothing, next_token, below}
use Rattle.jr_parse_expr.specs.Writing.{write_name, write_expr}
use Rattle.jr_parse_expr.proofs.NameReads.{name_sound}
use Rattle.jr_parse_expr.proofs.Asked.{ReadsExprs, ReadsLists, Operand}
use Rattle.jr_parse_expr.proofs.Creations.{by_sound, created_sound}
use Rattle.jr_parse_expr.proofs.Operands.{operand_sound, prefix_sound}
use Rattle.jr_parse_expr.proofs.Free.{free_operand}
use Rattle.jr_parse_expr.proofs.FreeReads.{same_operand, Fronted, Whole, Left, front_sound}
use Rattle.jr_parse_expr.proofs.EffectReads.{below_le, is_plain, operand_up}

abbrev pub is_callable : x.Expr → Bool
is_callable (x.NameExpr n) = true
is_callable (x.Select object member) = true
is_callable (x.SuperSelect member) = true
is_callable _ = false

-- a statement, or a part of one within room levels, or what a call goes on with
pub data Ready (room : ℕ) (e : x.Expr) : Type 0 where
  Statement : is_statement e ≡ true → Ready room e
  Small : 13 ≤ level e → expr_depth e ≤ room → Ready room e
  Callable : is_callable e ≡ true → Ready room e

pub record Front (room : ℕ) (ts : List Kind) (r : x.Expr × List Kind) : Type 0 where
  pub shaped : IsShapedExpr r.0
  pub plain : is_least r.0 ≡ false
  pub low : expr_depth r.0 ≤ suc room
  pub written : ts ≡ write_expr r.0 r.1
  pub ready : Ready room r.0

plain_only : (turns : ℕ) (before : List Text) (last : Text) (ts : List Kind) (r : Dotted × List Kind) → dotted_from false turns before last ts ≡ Ok r → is_plain r.0 ≡ true
plain_only zero before last ts r h = subst (λ (r : Dotted × List Kind). is_plain r.0 ≡ true) (ok_is h) refl
plain_only (suc turns) before last [] r h = subst (λ (r : Dotted × List Kind). is_plain r.0 ≡ true) (ok_is h) refl
plain_only (suc turns) before last (kind.Sym y.Dot ∷ []) r h = absurd (err_ok h)
plain_only (suc turns) before last (kind.Sym y.Dot ∷ kind.Ident part ∷ ts) r h = plain_only turns (before ++ last ∷ []) part ts r h
plain_only (suc turns) before last (kind.Sym y.Dot ∷ kind.Word k.This ∷ ts) r h = absurd (err_ok h)
plain_only (suc turns) before last (kind.Sym y.Dot ∷ token ∷ ts) r h = absurd (err_ok h)
plain_only (suc turns) before last (token ∷ ts) r h = subst (λ (r : Dotted × List Kind). is_plain r.0 ≡ true) (ok_is h) refl

tight_array : (e : x.Expr) → is_new_array e ≡ true → level e ≡ 14
tight_array (x.NewArray b ds more l) h = refl
tight_array _ h = absurd (cc)

from_operand : (room : ℕ) (ts : List Kind) (r : x.Expr × List Kind) → Operand room ts r → Ready room r.0 → Front room ts r
from_operand room ts r found ready = record { shaped = found.shaped; plain = found.not_least; low = found.low; written = found.written; ready = ready }

module _ (room : ℕ) (inner : Lead → ℕ → Parser x.Expr) (list : Parser x.InitList) where
  abbrev Readies : x.Expr × List Kind → Type 0
  Readies r = Ready room r.0

  pub call_ready : (object : x.AnyReceiver) (method : Text) (access : x.Expr) (ts : List Kind) (r : x.Expr × List Kind) → is_callable access ≡ true → reader.call_or room inner list object method access ts ≡ Ok r → Readies r
  call_ready object method access [] r c h = subst Readies (ok_is h) (Callable c)
  call_ready object method access (token ∷ ts) r c h =
      elim (chosen (is_symbol y.OpenParen token) _ _ _ h) [
        | inl t ↦ (let a = bind_ok (reader.arguments room inner list ts) _ r t.1 in subst Readies (ok_is a.2) (Statement refl))
        | inr t ↦ subst Readies (ok_is t.1) (Callable c)
      ]

  after_ready : (d : Dotted) (ts : List Kind) (r : x.Expr × List Kind) → (is_plain d ≡ false → 1 ≤ room) → reader.after_dotted room inner list d ts ≡ Ok r → Readies r
  unfolding reader.after_dotted
  after_ready (Enclosing before last) ts r some h = subst Readies (ok_is h) (Small (omega arith) (some refl))
  after_ready (Plain before last) ts r some h = call_ready (reader.receiver_of before) last (x.NameExpr (name_of (before ++ last ∷ []))) ts r refl h

  named_ready : (b : Bool) (head : Text) (ts : List Kind) (r : x.Expr × List Kind) → ltb room 1 ≡ b → and_then (dotted (not b) [] head ts) (reader.after_dotted room inner list) ≡ Ok r → Readies r
  unfolding dotted
  named_ready false head ts r e h =
      let some = ltb-false room 1 e in
      let a = bind_ok (dotted_from true (length ts) [] head ts) _ r h in
      after_ready a.0.0 a.0.1 r (λ p. some) a.2
  named_ready true head ts r e h =
      let a = bind_ok (dotted_from false (length ts) [] head ts) _ r h in
      let plain = plain_only (length ts) [] head ts a.0 a.1 in
      after_ready a.0.0 a.0.1 r (λ p. absurd (true≢false (sym plain ∙ p))) a.2

  super_ready : (ts : List Kind) (r : x.Expr × List Kind) → reader.super_member room inner list ts ≡ Ok r → Readies r
  unfolding reader.super_member
  super_ready ts r h =
      let a = bind_ok (expect y.Dot ts) _ r h in
      let b = bind_ok (identifier a.0.1) _ r a.2 in
      call_ready (x.a_receiver x.Super) b.0.0 (x.SuperSelect b.0.0) b.0.1 r refl b.2

  step_ready : (s : Symbol) (ts : List Kind) (r : x.Expr × List Kind) → cond {A = Outcome x.Expr} (is_step s) (reader.prefix room inner list s ts) (Err (NoTree, kind.Sym s ∷ ts)) ≡ Ok r → Readies r
  step_ready y.PlusPlus ts r h = pre_ready y.PlusPlus ts r h where
    pre_ready : (s : Symbol) (ts : List Kind) (r : x.Expr × List Kind) → within 1 room (kind.Sym s) (inner Nothing 12 >>= (λ e. pure (x.PreStep s e))) ts ≡ Ok r → Readies r
    pre_ready s ts r h =
        elim (chosen (ltb room 1) _ _ _ h) [
          | inl t ↦ absurd (err_ok t.1)
          | inr t ↦ (let a = bind_ok (inner Nothing 12 ts) _ r t.1 in subst Readies (ok_is a.2) (Statement refl))
        ]
  step_ready y.MinusMinus ts r h =
      elim (chosen (ltb room 1) _ _ _ h) [
        | inl t ↦ absurd (err_ok t.1)
        | inr t ↦ (let a = bind_ok (inner Nothing 12 ts) _ r t.1 in subst Readies (ok_is a.2) (Statement refl))
      ]
  step_ready _ ts r h = absurd (err_ok h)

  array_new : (b : Base) (ts : List Kind) (r : x.Expr × List Kind) → reader.array room inner list b ts ≡ Ok r → is_new_array r.0 ≡ true
  unfolding reader.array reader.sized reader.unsized
  array_new b [] r h =
      let a = bind_ok (inner Nothing 0 []) _ r h in
      let c = bind_ok (expect y.CloseBracket a.0.1) _ r a.2 in
      let d = bind_ok (reader.sizes room inner list c.0.1) _ r c.2 in
      subst (λ (r : x.Expr × List Kind). is_new_array r.0 ≡ true) (ok_is d.2) refl
  array_new b (token ∷ ts) r h =
      elim (chosen (is_symbol y.CloseBracket token) _ _ _ h) [
        | inl t ↦
            (let a = bind_ok (dims ts) _ r t.1 in
            let c = bind_ok (list a.0.1) _ r a.2 in
            subst (λ (r : x.Expr × List Kind). is_new_array r.0 ≡ true) (ok_is c.2) refl)
        | inr t ↦
            (let a = bind_ok (inner Nothing 0 (token ∷ ts)) _ r t.1 in
            let c = bind_ok (expect y.CloseBracket a.0.1) _ r a.2 in
            let d = bind_ok (reader.sizes room inner list c.0.1) _ r c.2 in
            subst (λ (r : x.Expr × List Kind). is_new_array r.0 ≡ true) (ok_is d.2) refl)
      ]

module _ (room : ℕ) (inner : Lead → ℕ → Parser x.Expr) (list : Parser x.InitList) (under : Lead → ℕ → Parser x.Expr) (under_list : Parser x.InitList)
    (reads : ReadsExprs room inner) (lists : ReadsLists room list) (low_reads : ReadsExprs (below room) under) (low_lists : ReadsLists (below room) under_list) where
  -- an array that was read a level lower
  small_array : (ts : List Kind) (r : x.Expr × List Kind) → 1 ≤ below room → is_new_array r.0 ≡ true → Operand (below room) ts r → Ready room r.0
  small_array ts r some n found = let l = found.low in let t = tight_array r.0 n in Small (omega arith) (go room some l) where
    go : (n : ℕ) → 1 ≤ below n → expr_depth r.0 ≤ suc (below n) → expr_depth r.0 ≤ n
    go zero some l = absurd (omega arith)
    go (suc n) some l = l

  created_ready : (n : Name) (ts us : List Kind) (r : x.Expr × List Kind) → ts ≡ write_name n us → IsName n → next_token (reader.effect_created_by room inner list under under_list n) us ≡ Ok r → Ready room r.0
  created_ready n ts [] r same is h = absurd (err_ok h)
  created_ready n ts (kind.Sym y.OpenBracket ∷ us) r same is h =
      elim (chosen (ltb (below room) 1) _ _ _ h) [
        | inl t ↦ absurd (err_ok t.1)
        | inr t ↦
            small_array (kind.Word k.New ∷ ts) r (ltb-false (below room) 1 t.0) (array_new (below room) under under_list (base.Named n) us r t.1)
            (created_sound (below room) under under_list low_reads low_lists n ts (kind.Sym y.OpenBracket ∷ us) r is same h)
      ]
  created_ready n ts (kind.Sym y.OpenParen ∷ us) r same is h = let a = bind_ok (reader.arguments room inner list us) _ r h in subst (λ (r : x.Expr × List Kind). Ready room r.0) (ok_is a.2) (Statement refl)
  created_ready n ts (token ∷ us) r same is h = absurd (err_ok h)

  creation_ready : (o : Option Primitive) (ts : List Kind) (r : x.Expr × List Kind) → primitive_at ts ≡ o → reader.effect_creation_by room inner list under under_list o ts ≡ Ok r → Ready room r.0
  creation_ready None ts r p h =
      let a = bind_ok (name ts) _ r h in
      let found = name_sound ts a.0 a.1 in
      created_ready a.0.0 ts a.0.1 r found.1 found.0 a.2
  creation_ready (Some q) [] r p h = absurd (err_ok h)
  creation_ready (Some q) (token ∷ ts) r p h =
      elim (chosen (ltb (below room) 1) _ _ _ h) [
        | inl t ↦ absurd (err_ok t.1)
        | inr t ↦
            (let a = bind_ok (expect y.OpenBracket ts) _ r t.1 in
            small_array (kind.Word k.New ∷ token ∷ ts) r (ltb-false (below room) 1 t.0) (array_new (below room) under under_list (base.Primitive q) a.0.1 r a.2)
            (by_sound (below room) under under_list low_reads low_lists (Some q) (token ∷ ts) r p h))
      ]

  literal_ready : (token : Kind) (ts : List Kind) (r : x.Expr × List Kind) → cond {A = Outcome x.Expr} (is_plain_literal token) (within 1 room token (pure (x.Lit token)) ts) (Err (NoTree, token ∷ ts)) ≡ Ok r → Ready room r.0
  literal_ready token ts r h =
      elim (chosen (is_plain_literal token) _ _ _ h) [
        | inr t ↦ absurd (err_ok t.1)
        | inl t ↦
            (elim (chosen (ltb room 1) _ _ _ t.1) [
              | inl q ↦ absurd (err_ok q.1)
              | inr q ↦ subst (λ (r : x.Expr × List Kind). Ready room r.0) (ok_is q.1) (Small (omega arith) (ltb-false room 1 q.0))
            ])
      ]

  first_ready : (ts : List Kind) (r : x.Expr × List Kind) → reader.effect_operand room inner list under under_list Nothing ts ≡ Ok r → Ready room r.0
  first_ready [] r h = absurd (err_ok h)
  first_ready (kind.Ident head ∷ ts) r h = named_ready room inner list (ltb room 1) head ts r refl h
  first_ready (kind.Word k.This ∷ ts) r h =
      elim (chosen (ltb room 1) _ _ _ h) [
        | inl t ↦ absurd (err_ok t.1)
        | inr t ↦ subst (λ (r : x.Expr × List Kind). Ready room r.0) (ok_is t.1) (Small (omega arith) (ltb-false room 1 t.0))
      ]
  first_ready (kind.Word k.Super ∷ ts) r h = super_ready room inner list ts r h
  first_ready (kind.Word k.New ∷ ts) r h = creation_ready (primitive_at ts) ts r refl h
  first_ready (kind.Sym y.OpenParen ∷ ts) r h =
      elim (chosen (ltb room 2) _ _ _ h) [
        | inl t ↦ absurd (err_ok t.1)
        | inr t ↦
            (let some = ltb-false room 2 t.0 in
            let a = bind_ok (under Nothing 0 ts) _ r t.1 in
            let b = bind_ok (expect y.CloseParen a.0.1) _ r a.2 in
            let found = low_reads.sound 0 ts a.0 (omega arith) a.1 in
            subst (λ (r : x.Expr × List Kind). Ready room r.0) (ok_is b.2) (Small (omega arith) (go room (expr_depth a.0.0) some found.is.low)))
      ] where
        go : (n d : ℕ) → 2 ≤ n → d ≤ below n → suc d ≤ n
        go zero d some l = absurd (omega arith)
        go (suc n) d some l = omega arith
  first_ready (kind.Sym s ∷ ts) r h = step_ready room inner list s ts r h
  first_ready (token ∷ ts) r h = literal_ready token ts r h

  -- parentheses, whatever follows
  paren_front : (ts : List Kind) (r : x.Expr × List Kind) → within 2 room (kind.Sym y.OpenParen) (under Nothing 0 >>= reader.closed) ts ≡ Ok r → Ready room r.0 → Front room (kind.Sym y.OpenParen ∷ ts) r
  paren_front ts r h ready =
      elim (chosen (ltb room 2) _ _ _ h) [
        | inl t ↦ absurd (err_ok t.1)
        | inr t ↦
            (let a = bind_ok (under Nothing 0 ts) _ r t.1 in
            let b = bind_ok (expect y.CloseParen a.0.1) _ r a.2 in
            let found = low_reads.sound 0 ts a.0 (omega arith) a.1 in
            let l = found.is.low in
            let under_room = below_le room in
            subst (λ (r : x.Expr × List Kind). Ready room r.0 → Front room (kind.Sym y.OpenParen ∷ ts) r) (ok_is b.2)
            (λ ready. record {
              shaped = (found.is.fits, found.is.shaped);
              plain = refl;
              low = omega arith;
              written = ap (λ us. kind.Sym y.OpenParen ∷ us) (found.written ∙ ap (write_expr a.0.0) (expect_sound y.CloseParen a.0.1 b.0 b.1));
              ready = ready;
            }) ready)
      ]

  from_step : (s : Symbol) (ts : List Kind) (r : x.Expr × List Kind) → cond {A = Outcome x.Expr} (is_step s) (reader.prefix room inner list s ts) (Err (NoTree, kind.Sym s ∷ ts)) ≡ Ok r → Ready room r.0 → Front room (kind.Sym s ∷ ts) r
  from_step s ts r h ready =
      elim (chosen (is_step s) _ _ _ h) [
        | inl t ↦ from_operand room (kind.Sym s ∷ ts) r (prefix_sound room inner list reads lists s ts r t.1) ready
        | inr t ↦ absurd (err_ok t.1)
      ]

  front_of : (ts : List Kind) (r : x.Expr × List Kind) → reader.effect_operand room inner list under under_list Nothing ts ≡ Ok r → free_operand room inner list Nothing ts ≡ Ok r → Ready room r.0 → Front room ts r
  front_of [] r h free ready = absurd (err_ok h)
  front_of (kind.Sym y.OpenParen ∷ ts) r h free ready = paren_front ts r h ready
  front_of (kind.Sym s ∷ ts) r h free ready = from_step s ts r h ready
  front_of (token ∷ ts) r h free ready = from_operand room (token ∷ ts) r (operand_sound room inner list reads lists (token ∷ ts) r (sym (same_operand room inner list (token ∷ ts) refl) ∙ free)) ready

  pub front_is : (ts : List Kind) (r : x.Expr × List Kind) → reader.effect_operand room inner list under under_list Nothing ts ≡ Ok r → Front room ts r
  front_is ts r h = front_of ts r h (operand_up room inner list under under_list reads lists low_reads low_lists Nothing ts r h) (first_ready ts r h)

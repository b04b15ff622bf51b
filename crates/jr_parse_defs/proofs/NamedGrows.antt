-- Where reading a statement that begins with a name, which is a declaration, a label or an expression, stops, what stands before begins one.
use Rattle.std.proofs.Common.{◌≡◌, ℕ, suc, ◌≤◌, Bool, true, false, cond, ltb, List, [], ◌∷◌, ◌++◌, Some, Err, refl, sym, ap, ◌∙◌, subst, inl, inr, arith}
use Rattle.std.proofs.lemmas.Bool.{cases_lt, ltb-true}
use Rattle.jr_base.specs.declared.text.Text.{Text}
use Rattle.jr_base.specs.declared.kind.Kind.{Kind}
use Rattle.jr_base.specs.declared.kind.Kind.TheVariants as kind
use Rattle.jr_base.specs.declared.kind.Symbol.TheVariants as y
use Rattle.jr_base.specs.declared.kind.Keyword.TheVariants as k
use Rattle.jr_tree.specs.declared.tree.Base.TheVariants as base
use Rattle.jr_tree.specs.declared.tree.TypeUse.{TypeUse}
use Rattle.jr_tree.specs.Shape.{IsTypeUse, IsStatementExpr}
use Rattle.jr_tree.specs.Depth.{expr_depth, stmt_depth}
use Rattle.jr_tree.specs.Mirror.Exprs as x
use Rattle.jr_tree.specs.Mirror.Stmts as s
use Rattle.jr_parse_laws.specs.declared.fault.Fault.{Fault}
use Rattle.jr_parse_laws.specs.declared.fault.Fault.TheVariants.{TooDeep}
use Rattle.jr_parse_laws.specs.Parsers.{Parser, and_then, first, begins_with}
use Rattle.jr_parse_laws.proofs.Outcomes.{ok_err}
use Rattle.jr_parse_laws.proofs.Stops.{leading_nothing}
use Rattle.jr_parse_starts.specs.Starts.{starts_expr, next_is}
use Rattle.jr_parse_expr.specs.Names.{name_of, type_of, Dotted, Plain, Enclosing, dotted}
use Rattle.jr_parse_expr.specs.Exprs.{Lead, Named, Indexed, goes_on_name, effect}
use Rattle.jr_parse_expr.specs.Writing.{write_all, write_expr, write_dotted, write_lead}
use Rattle.jr_parse_expr.specs.Follow.{IsLed}
use Rattle.jr_parse_expr.proofs.NameReads.{has_parts, all_append, dims_sound, dotted_sound, DottedEnds}
use Rattle.jr_parse_expr.proofs.NameGrowths.{dims_stop, brackets_more, leading_brackets}
use Rattle.jr_parse_expr.proofs.Growths.{Growing, leading_then, leading_one, leading_expr, sample}
use Rattle.jr_parse_expr.proofs.PartGrowths.{NoLevel, Deep, Refused}
use Rattle.jr_parse_defs.specs.Stmts as reader
use Rattle.jr_parse_defs.specs.Writing.{write_stmt}
use Rattle.jr_parse_defs.proofs.Variables.{declarators_sound}
use Rattle.jr_parse_defs.proofs.Expressions.{found_effect}
use Rattle.jr_parse_defs.proofs.Named.{not_local, write_locals_front}
use Rattle.jr_parse_defs.proofs.Grows.{Low, part, gone, deeps, on, last, ends_with, at_symbol, forces}
use Rattle.jr_parse_defs.proofs.PartGrows.{leading_typed, sample_whole, whole_starter, name_starter, call_named, call_is, call_depth, call_spelled, dotted_fault, effect_grow, no_named, no_indexed, variable, Typed, behind_type}
use Rattle.jr_parse_defs.proofs.StmtNears.{Flagged, flagged, this_room}
use Rattle.jr_parse_defs.proofs.Starters.{GrowsStmt, Statement, StmtShape, leading_names, leading_symbol, semi}

module _ (room : ℕ) (inner outer : Parser s.Stmt) (grow_in : GrowsStmt room false inner) where
  abbrev Goal : Bool → List Kind → Fault × List Kind → Type 0
  Goal declares ts stop = Statement declares (suc room) ts stop

  pub eval_part : (declares : Bool) {ts : List Kind} {stop : Fault × List Kind} → Growing (Low IsStatementExpr expr_depth) write_expr room ts stop → Goal declares ts stop
  eval_part declares g = part leading_nothing s.Eval semi (λ e z. refl) (λ e is. (is, not_local declares)) (λ e l. omega arith) g

  pub evaluated_grow : (declares : Bool) (lead : Lead) (ts : List Kind) (stop : Fault × List Kind) → IsLed lead (first ts) → reader.evaluated room inner outer lead ts ≡ Err stop
      → (effect room lead ts ≡ Err stop → Goal declares (write_lead lead ts) stop) → Goal declares (write_lead lead ts) stop
  evaluated_grow declares lead ts stop led h one =
      on h one
      (λ v us e d.
      let found = found_effect room lead ts (v, us) led e in
      let low = found.low in
      subst (λ ts. Goal declares ts stop) (sym found.written) (gone (ends_with y.Semicolon us d (λ u us d. ok_err d)) (leading_expr v) (s.Eval v) semi (λ z. refl) (found.is, not_local declares) (omega arith)))

  pub local_part : {ts : List Kind} {stop : Fault × List Kind} → Typed room ts stop → Goal true ts stop
  local_part g = part leading_nothing (λ v. s.Local v.0 v.1 v.2) semi (λ v z. refl) (λ v is. ((is.0, is.1.0, is.1.1), refl)) (λ v l. omega arith) g

  local_grow : (b : Bool) (t : TypeUse) (ts : List Kind) (stop : Fault × List Kind) → IsTypeUse t → reader.local room inner outer b t ts ≡ Err stop → Goal true (write_locals_front b t ts) stop
  local_grow b t ts stop is h =
      on h (λ e. local_part (behind_type room b t is ts stop e))
      (λ ds us e d.
      let found = declarators_sound room ts (ds, us) e in
      let low = found.are.2 in
      subst (λ ts. Goal true (write_locals_front b t ts) stop) (sym found.written)
      (gone (ends_with y.Semicolon us d (λ u us d. ok_err d)) (leading_typed (b, t, ds)) (s.Local b t ds) semi (λ z. refl) ((is, found.are.0, found.are.1), refl) (omega arith)))

  -- a declaration of a variable of a class's type, with so many pairs of brackets
  abbrev a_local : List Text → Text → ℕ → s.Stmt
  a_local before final pairs = s.Local false (type_of (base.Named (name_of (before ++ final ∷ []))) pairs) (variable ∷ [])

  local_is : (before : List Text) (final : Text) (pairs : ℕ) → StmtShape true (a_local before final pairs)
  local_is before final pairs = ((has_parts before final, refl, (tt, tt)), refl)

  -- what stands there with the name alone
  named_gone : (declares : Bool) (before : List Text) (final : Text) (ts : List Kind) (stop : Fault × List Kind) → declares ≡ true → NoLevel (next_is goes_on_name) ts stop → Goal declares (write_all (before ++ final ∷ []) ts) stop
  named_gone false before final ts stop may n = absurd (cc)
  named_gone true before final ts stop may (Refused f e) =
      gone e (leading_names (before ++ final ∷ [])) (a_local before final 0) (λ z. kind.Ident [] ∷ semi z) (λ z. refl) (local_is before final 0) (omega arith)
  named_gone true before final [] stop may (Deep f e) = absurd (cc)
  named_gone true before final (token ∷ ts) stop may (Deep f e) =
      let a = name_starter before final token f in
      deeps e (leading_names (before ++ final ∷ [])) (a_local before final 0) (λ z. kind.Ident [] ∷ semi z) (λ z. refl) (local_is before final 0) (omega arith) (s.Eval a.tree) (λ z. a.more (semi z)) (λ z. a.spelled (semi z)) (a.is, refl)

  may_declare : (declares : Bool) → (declares ≡ false → 1 ≤ room) → room ≤ 0 → declares ≡ true
  may_declare true some none = refl
  may_declare false some none = absurd (let l = some refl in omega arith)

  name_grow : (declares : Bool) (before : List Text) (final : Text) (ts : List Kind) (stop : Fault × List Kind) → (declares ≡ false → 1 ≤ room) → begins_with y.Dot (first ts) ≡ false
      → reader.evaluated room inner outer (Named (Plain before final)) ts ≡ Err stop → Goal declares (write_all (before ++ final ∷ []) ts) stop
  name_grow declares before final ts stop some dot h =
      evaluated_grow declares (Named (Plain before final)) ts stop dot h
      (λ e. elim (cases_lt 0 room) [
        | inl up ↦ eval_part declares (effect_grow room (Named (Plain before final)) up ts stop dot e)
        | inr none ↦ named_gone declares before final ts stop (may_declare declares some none) (no_named room none before final ts stop e)
      ])

  bracket_gone : (before : List Text) (final : Text) (ts : List Kind) (stop : Fault × List Kind) → NoLevel starts_expr ts stop → Goal true (write_all (before ++ final ∷ []) (kind.Sym y.OpenBracket ∷ ts)) stop
  bracket_gone before final ts stop (Refused f e) =
      gone e (leading_then (leading_names (before ++ final ∷ [])) (leading_symbol y.OpenBracket)) (a_local before final 1) (λ z. kind.Sym y.CloseBracket ∷ kind.Ident [] ∷ semi z) (λ z. refl) (local_is before final 1) (omega arith)
  bracket_gone before final [] stop (Deep f e) = absurd (cc)
  bracket_gone before final (token ∷ ts) stop (Deep f e) =
      let a = whole_starter token f in
      deeps e (leading_then (leading_names (before ++ final ∷ [])) (leading_symbol y.OpenBracket)) (a_local before final 1) (λ z. kind.Sym y.CloseBracket ∷ kind.Ident [] ∷ semi z) (λ z. refl) (local_is before final 1) (omega arith)
      (s.Eval (x.PostStep (x.Index (x.NameExpr (name_of (before ++ final ∷ []))) a.tree) y.PlusPlus)) (λ z. a.more (kind.Sym y.CloseBracket ∷ kind.Sym y.PlusPlus ∷ semi z))
      (λ z. ap (λ ts. write_all (before ++ final ∷ []) (kind.Sym y.OpenBracket ∷ ts)) (a.spelled (kind.Sym y.CloseBracket ∷ kind.Sym y.PlusPlus ∷ semi z)))
      ((refl, (refl, (omega arith, refl), (((omega arith, refl), refl), has_parts before final, a.is.0, a.is.1))), refl)

  bracketed_grow : (before : List Text) (final : Text) (ts : List Kind) (stop : Fault × List Kind) → reader.bracketed room inner outer before final ts ≡ Err stop
      → Goal true (write_all (before ++ final ∷ []) (kind.Sym y.OpenBracket ∷ ts)) stop
  bracketed_grow before final ts stop h =
      let n = name_of (before ++ final ∷ []) in
      let front = leading_then (leading_names (before ++ final ∷ [])) (leading_symbol y.OpenBracket) in
      at_symbol y.CloseBracket ts (λ ts. Goal true (write_all (before ++ final ∷ []) (kind.Sym y.OpenBracket ∷ ts)) stop) h
      (λ us g. on g
      (λ e.
      let d = dims_stop us stop e in
      subst (λ us. Goal true (write_all (before ++ final ∷ []) (kind.Sym y.OpenBracket ∷ kind.Sym y.CloseBracket ∷ us)) stop) (sym d.split)
      (gone d.here (leading_then front (leading_then (leading_symbol y.CloseBracket) (leading_then (leading_brackets d.count) (leading_symbol y.OpenBracket)))) (a_local before final (suc (suc d.count)))
      (λ z. kind.Sym y.CloseBracket ∷ kind.Ident [] ∷ semi z) (λ z. ap (λ ts. write_all (before ++ final ∷ []) (kind.Sym y.OpenBracket ∷ kind.Sym y.CloseBracket ∷ ts)) (brackets_more d.count (kind.Ident [] ∷ semi z)))
      (local_is before final (suc (suc d.count))) (omega arith)))
      (λ more vs e d.
      subst (λ us. Goal true (write_all (before ++ final ∷ []) (kind.Sym y.OpenBracket ∷ kind.Sym y.CloseBracket ∷ us)) stop) (sym (dims_sound us (more, vs) e).0)
      (local_grow false (type_of (base.Named n) (suc more)) vs stop (has_parts before final) d)))
      (λ f g. evaluated_grow true (Indexed n) ts stop (has_parts before final) g
      (λ e. elim (cases_lt 2 room) [
        | inl up ↦ eval_part true (effect_grow room (Indexed n) up ts stop (has_parts before final) e)
        | inr low ↦ bracket_gone before final ts stop (no_indexed room low n ts stop e)
      ]))

  -- behind a name where no declaration can stand
  bracket_grow : (before : List Text) (final : Text) (ts : List Kind) (stop : Fault × List Kind) → 1 ≤ room
      → cond (ltb room 3) (Err (TooDeep, kind.Sym y.OpenBracket ∷ ts)) (reader.evaluated room inner outer (Indexed (name_of (before ++ final ∷ []))) ts) ≡ Err stop
      → Goal false (write_all (before ++ final ∷ []) (kind.Sym y.OpenBracket ∷ ts)) stop
  bracket_grow before final ts stop some h =
      let n = name_of (before ++ final ∷ []) in
      let one = call_depth before final in
      forces room 3 (kind.Sym y.OpenBracket) ts h
      (λ f e. deeps e (leading_names (before ++ final ∷ [])) (s.Eval (call_named before final)) (λ z. kind.Sym y.OpenParen ∷ kind.Sym y.CloseParen ∷ semi z) (λ z. call_spelled before final (semi z)) (call_is before final, refl) (omega arith)
      (s.Eval (x.PostStep (x.Index (x.NameExpr n) sample) y.PlusPlus)) (λ z. kind.Word k.This ∷ kind.Sym y.CloseBracket ∷ kind.Sym y.PlusPlus ∷ semi z) (λ z. refl)
      ((refl, (refl, (omega arith, refl), (((omega arith, refl), refl), has_parts before final, sample_whole.0, sample_whole.1))), refl))
      (λ up g. evaluated_grow false (Indexed n) ts stop (has_parts before final) g (λ e. eval_part false (effect_grow room (Indexed n) up ts stop (has_parts before final) e)))

  -- a label
  labeled_grow : (declares : Bool) (label : Text) (ts : List Kind) (stop : Fault × List Kind) → (declares ≡ false → 1 ≤ room)
      → cond (ltb room 1) (Err (TooDeep, kind.Sym y.Colon ∷ ts)) (reader.labeled room inner outer label ts) ≡ Err stop → Goal declares (kind.Ident label ∷ kind.Sym y.Colon ∷ ts) stop
  labeled_grow declares label ts stop some h =
      forces room 1 (kind.Sym y.Colon) ts h
      (λ f e. no_body declares (may_declare declares some (let l = ltb-true room 1 f in omega arith)) e)
      (λ up g. part (leading_then (leading_one (kind.Ident label)) (leading_symbol y.Colon)) (λ a. s.Labeled label a) (λ z. z) (λ a z. refl) (λ a is. ((is.1, is.0), not_local declares)) (λ a l. omega arith)
      (grow_in.grow up ts stop (last g (λ a us d. ok_err d)))) where
        no_body : (declares : Bool) → declares ≡ true → (TooDeep, kind.Sym y.Colon ∷ ts) ≡ stop → Goal declares (kind.Ident label ∷ kind.Sym y.Colon ∷ ts) stop
        no_body false may e = absurd (cc)
        no_body true may e =
            deeps e (leading_one (kind.Ident label)) (a_local [] label 0) (λ z. kind.Ident [] ∷ semi z) (λ z. refl) (local_is [] label 0) (omega arith) (s.Labeled label s.Skip) (λ z. semi z) (λ z. refl) ((refl, tt), refl)

  named_grow : (declares : Bool) (d : Dotted) (ts : List Kind) (stop : Fault × List Kind) → (declares ≡ false → 1 ≤ room) → DottedEnds d (first ts) → Flagged (reader.has_this room) d → reader.named room inner outer declares d ts ≡ Err stop
      → Goal declares (write_dotted d ts) stop
  unfolding reader.named
  named_grow declares (Enclosing before final) ts stop some ended flag h =
      evaluated_grow declares (Named (Enclosing before final)) ts stop tt h (λ e. eval_part declares (effect_grow room (Named (Enclosing before final)) (this_room room flag) ts stop tt e))
  named_grow declares (Plain before final) [] stop some ended flag h = name_grow declares before final [] stop some ended h
  named_grow true (Plain before final) (kind.Ident v ∷ ts) stop some ended flag h = local_grow false (type_of (base.Named (name_of (before ++ final ∷ []))) 0) (kind.Ident v ∷ ts) stop (has_parts before final) h
  named_grow true (Plain before final) (kind.Sym y.OpenBracket ∷ ts) stop some ended flag h = bracketed_grow before final ts stop h
  named_grow false (Plain before final) (kind.Sym y.OpenBracket ∷ ts) stop some ended flag h = bracket_grow before final ts stop (some refl) h
  named_grow true (Plain [] final) (kind.Sym y.Colon ∷ ts) stop some ended flag h = labeled_grow true final ts stop some h
  named_grow false (Plain [] final) (kind.Sym y.Colon ∷ ts) stop some ended flag h = labeled_grow false final ts stop some h
  named_grow true (Plain before final) (token ∷ ts) stop some ended flag h = name_grow true before final (token ∷ ts) stop some ended h
  named_grow false (Plain before final) (token ∷ ts) stop some ended flag h = name_grow false before final (token ∷ ts) stop some ended h

  -- behind a dot
  abbrev after_dot : Bool → List Text → Text → s.Stmt
  after_dot true front final = a_local (front ++ final ∷ []) [] 0
  after_dot false front final = s.Eval (call_named (front ++ final ∷ []) [])

  abbrev rest_of_it : Bool → List Kind → List Kind
  rest_of_it true z = kind.Ident [] ∷ kind.Ident [] ∷ semi z
  rest_of_it false z = kind.Ident [] ∷ kind.Sym y.OpenParen ∷ kind.Sym y.CloseParen ∷ semi z

  dot_spelled : (declares : Bool) (front : List Text) (final : Text) (z : List Kind) → write_stmt (after_dot declares front final) z ≡ write_all (front ++ final ∷ []) (kind.Sym y.Dot ∷ rest_of_it declares z)
  dot_spelled true front final z = all_append front final ([] ∷ []) (kind.Ident [] ∷ semi z)
  dot_spelled false front final z = call_spelled (front ++ final ∷ []) [] (semi z) ∙ all_append front final ([] ∷ []) (kind.Sym y.OpenParen ∷ kind.Sym y.CloseParen ∷ semi z)

  dot_is : (declares : Bool) (front : List Text) (final : Text) → StmtShape declares (after_dot declares front final)
  dot_is true front final = local_is (front ++ final ∷ []) [] 0
  dot_is false front final = (call_is (front ++ final ∷ []) [], refl)

  dot_low : (declares : Bool) (front : List Text) (final : Text) → (declares ≡ false → 1 ≤ room) → stmt_depth (after_dot declares front final) ≤ suc room
  dot_low true front final some = omega arith
  dot_low false front final some = let one = call_depth (front ++ final ∷ []) [] in let up = some refl in omega arith

  pub from_name_grow : (declares : Bool) (head : Text) (ts : List Kind) (stop : Fault × List Kind) → (declares ≡ false → 1 ≤ room) → and_then (dotted (reader.has_this room) [] head ts) (reader.named room inner outer declares) ≡ Err stop
      → Goal declares (kind.Ident head ∷ ts) stop
  from_name_grow declares head ts stop some h =
      on h
      (λ e.
      let f = dotted_fault (reader.has_this room) head ts stop e in
      let into = leading_then (leading_names (f.front ++ f.final ∷ [])) (leading_symbol y.Dot) in
      subst (λ ts. Goal declares ts stop) (sym f.split)
      (elim f.why [
        | inl w ↦ gone w into (after_dot declares f.front f.final) (rest_of_it declares) (dot_spelled declares f.front f.final) (dot_is declares f.front f.final) (dot_low declares f.front f.final some)
        | inr w ↦
            subst (λ rest. Goal declares (write_all (f.front ++ f.final ∷ []) (kind.Sym y.Dot ∷ rest)) stop) (sym w.1)
            (deeps w.2 into (after_dot declares f.front f.final) (rest_of_it declares) (dot_spelled declares f.front f.final) (dot_is declares f.front f.final) (dot_low declares f.front f.final some)
            (s.Eval (x.PostStep (x.This (Some (name_of (f.front ++ f.final ∷ [])))) y.PlusPlus)) (λ z. kind.Sym y.PlusPlus ∷ semi z) (λ z. refl) ((refl, (refl, (omega arith, refl), has_parts f.front f.final)), not_local declares))
      ]))
      (λ n us e d.
      let found = dotted_sound (reader.has_this room) [] head ts (n, us) e in
      subst (λ ts. Goal declares ts stop) (sym found.written) (named_grow declares n us stop some found.ended (flagged (reader.has_this room) head ts (n, us) e) d))

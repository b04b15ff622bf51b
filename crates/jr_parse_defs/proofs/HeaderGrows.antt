-- Where reading the first part of a `for` stops, what stands before begins one.
use Rattle.std.proofs.Common.{◌≡◌, ℕ, suc, ◌≤◌, Bool, false, cond, List, [], ◌∷◌, ◌++◌, Option, Some, None, Ok, Err, refl, sym, ap, ◌∙◌, subst, inl, inr, arith}
use Rattle.std.proofs.lemmas.Bool.{cases_lt}
use Rattle.jr_base.specs.declared.text.Text.{Text}
use Rattle.jr_base.specs.declared.kind.Kind.{Kind}
use Rattle.jr_base.specs.declared.kind.Kind.TheVariants as kind
use Rattle.jr_base.specs.declared.kind.Symbol.TheVariants as y
use Rattle.jr_tree.specs.declared.tree.Base.TheVariants as base
use Rattle.jr_tree.specs.declared.tree.TypeUse.{TypeUse}
use Rattle.jr_tree.specs.Shape.{IsTypeUse, IsStatementExpr, IsShapedForInit}
use Rattle.jr_tree.specs.Depth.{expr_depth, for_init_depth}
use Rattle.jr_tree.specs.Mirror.Exprs as x
use Rattle.jr_tree.specs.Mirror.Stmts as s
use Rattle.jr_parse_laws.specs.declared.fault.Fault.{Fault}
use Rattle.jr_parse_laws.specs.Parsers.{Outcome, Parser, and_then, first, begins_with, pure, ◌>>=◌}
use Rattle.jr_parse_laws.proofs.Outcomes.{and_then_alike, ok_err}
use Rattle.jr_parse_laws.proofs.Stops.{leading_nothing}
use Rattle.jr_parse_starts.specs.Starts.{begins_effect, starts_expr}
use Rattle.jr_parse_expr.specs.Names.{name_of, type_of, type_use, Dotted, Plain, Enclosing, dotted}
use Rattle.jr_parse_expr.specs.Exprs.{Lead, Nothing, Named, Indexed, effect}
use Rattle.jr_parse_expr.specs.Writing.{write_all, write_expr, write_dotted, write_lead}
use Rattle.jr_parse_expr.specs.Follow.{IsLed}
use Rattle.jr_parse_expr.proofs.NameReads.{has_parts, all_append, dims_sound, dotted_sound, DottedEnds}
use Rattle.jr_parse_expr.proofs.NameGrowths.{dims_stop, brackets_more, leading_brackets}
use Rattle.jr_parse_expr.proofs.Growths.{Growing, leading_then, leading_expr}
use Rattle.jr_parse_expr.proofs.PartGrowths.{NoLevel, Deep, Refused}
use Rattle.jr_parse_defs.specs.Begins.{begins_local}
use Rattle.jr_parse_defs.specs.Stmts as reader
use Rattle.jr_parse_defs.specs.Writing.{write_for_init}
use Rattle.jr_parse_defs.proofs.Expressions.{found_effect}
use Rattle.jr_parse_defs.proofs.Named.{write_locals_front}
use Rattle.jr_parse_defs.proofs.Grows.{Low, part, gone, deeps, on, last, choose, at_symbol}
use Rattle.jr_parse_defs.proofs.PartGrows.{whole_starter, dotted_fault, effect_grow, no_indexed, others_grow, variable, Typed, typed_grow, behind_type}
use Rattle.jr_parse_defs.proofs.StmtNears.{Flagged, flagged, this_room}
use Rattle.jr_parse_defs.proofs.Starters.{leading_names, leading_symbol}

module _ (room : ℕ) (inner outer : Parser s.Stmt) where
  abbrev First : List Kind → Fault × List Kind → Type 0
  First ts stop = Growing (Low IsShapedForInit for_init_depth) write_for_init room ts stop

  first_part : {ts : List Kind} {stop : Fault × List Kind} → Growing (Low IsStatementExpr expr_depth) write_expr room ts stop → First ts stop
  first_part g = part leading_nothing (λ e. s.Exprs (x.more_exprs e x.no_exprs)) (λ z. z) (λ e z. refl) (λ e is. (refl, (is, tt))) (λ e l. omega arith) g

  effects_grow : 1 ≤ room → (lead : Lead) (ts : List Kind) (stop : Fault × List Kind) → IsLed lead (first ts) → reader.first_effects room inner outer lead ts ≡ Err stop → (effect room lead ts ≡ Err stop → First (write_lead lead ts) stop)
      → First (write_lead lead ts) stop
  effects_grow some lead ts stop led h one =
      on h one
      (λ v us e d.
      let found = found_effect room lead ts (v, us) led e in
      let low = found.low in
      subst (λ ts. First ts stop) (sym found.written)
      (part (leading_expr v) (λ all. s.Exprs (x.more_exprs v all)) (λ z. z) (λ all z. refl) (λ all is. (refl, (found.is, is))) (λ all l. omega arith) (others_grow room some us stop (last d (λ all us d. ok_err d)))))

  locals_part : {ts : List Kind} {stop : Fault × List Kind} → Typed room ts stop → First ts stop
  locals_part g = part leading_nothing (λ v. s.Locals v.0 v.1 v.2) (λ z. z) (λ v z. refl) (λ v is. (is.0, is.1.0, is.1.1)) (λ v l. l) g

  locals_grow : (t : TypeUse) (ts : List Kind) (stop : Fault × List Kind) → IsTypeUse t → reader.locals room inner outer false t ts ≡ Err stop → First (write_locals_front false t ts) stop
  locals_grow t ts stop is h = locals_part (behind_type room false t is ts stop (last h (λ ds us d. ok_err d)))

  -- a declaration of a variable of a class's type
  abbrev a_first : List Text → Text → ℕ → s.ForInit
  a_first before final pairs = s.Locals false (type_of (base.Named (name_of (before ++ final ∷ []))) pairs) (variable ∷ [])

  first_is : (before : List Text) (final : Text) (pairs : ℕ) → IsShapedForInit (a_first before final pairs)
  first_is before final pairs = (has_parts before final, refl, (tt, tt))

  first_named_grow : 1 ≤ room → (before : List Text) (final : Text) (ts : List Kind) (stop : Fault × List Kind) → begins_with y.Dot (first ts) ≡ false → reader.first_effects room inner outer (Named (Plain before final)) ts ≡ Err stop
      → First (write_all (before ++ final ∷ []) ts) stop
  first_named_grow some before final ts stop dot h =
      effects_grow some (Named (Plain before final)) ts stop dot h (λ e. first_part (effect_grow room (Named (Plain before final)) some ts stop dot e))

  first_bracket_gone : (before : List Text) (final : Text) (ts : List Kind) (stop : Fault × List Kind) → NoLevel starts_expr ts stop → First (write_all (before ++ final ∷ []) (kind.Sym y.OpenBracket ∷ ts)) stop
  first_bracket_gone before final ts stop (Refused f e) =
      gone e (leading_then (leading_names (before ++ final ∷ [])) (leading_symbol y.OpenBracket)) (a_first before final 1) (λ z. kind.Sym y.CloseBracket ∷ kind.Ident [] ∷ z) (λ z. refl) (first_is before final 1) (omega arith)
  first_bracket_gone before final [] stop (Deep f e) = absurd (cc)
  first_bracket_gone before final (token ∷ ts) stop (Deep f e) =
      let a = whole_starter token f in
      deeps e (leading_then (leading_names (before ++ final ∷ [])) (leading_symbol y.OpenBracket)) (a_first before final 1) (λ z. kind.Sym y.CloseBracket ∷ kind.Ident [] ∷ z) (λ z. refl) (first_is before final 1) (omega arith)
      (s.Exprs (x.more_exprs (x.PostStep (x.Index (x.NameExpr (name_of (before ++ final ∷ []))) a.tree) y.PlusPlus) x.no_exprs)) (λ z. a.more (kind.Sym y.CloseBracket ∷ kind.Sym y.PlusPlus ∷ z))
      (λ z. ap (λ ts. write_all (before ++ final ∷ []) (kind.Sym y.OpenBracket ∷ ts)) (a.spelled (kind.Sym y.CloseBracket ∷ kind.Sym y.PlusPlus ∷ z)))
      (refl, ((refl, (refl, (omega arith, refl), (((omega arith, refl), refl), has_parts before final, a.is.0, a.is.1))), tt))

  first_bracketed_grow : 1 ≤ room → (before : List Text) (final : Text) (ts : List Kind) (stop : Fault × List Kind) → reader.first_bracketed room inner outer before final ts ≡ Err stop
      → First (write_all (before ++ final ∷ []) (kind.Sym y.OpenBracket ∷ ts)) stop
  first_bracketed_grow some before final ts stop h =
      let n = name_of (before ++ final ∷ []) in
      let front = leading_then (leading_names (before ++ final ∷ [])) (leading_symbol y.OpenBracket) in
      at_symbol y.CloseBracket ts (λ ts. First (write_all (before ++ final ∷ []) (kind.Sym y.OpenBracket ∷ ts)) stop) h
      (λ us g. on g
      (λ e.
      let d = dims_stop us stop e in
      subst (λ us. First (write_all (before ++ final ∷ []) (kind.Sym y.OpenBracket ∷ kind.Sym y.CloseBracket ∷ us)) stop) (sym d.split)
      (gone d.here (leading_then front (leading_then (leading_symbol y.CloseBracket) (leading_then (leading_brackets d.count) (leading_symbol y.OpenBracket)))) (a_first before final (suc (suc d.count)))
      (λ z. kind.Sym y.CloseBracket ∷ kind.Ident [] ∷ z) (λ z. ap (λ ts. write_all (before ++ final ∷ []) (kind.Sym y.OpenBracket ∷ kind.Sym y.CloseBracket ∷ ts)) (brackets_more d.count (kind.Ident [] ∷ z)))
      (first_is before final (suc (suc d.count))) (omega arith)))
      (λ more vs e d.
      subst (λ us. First (write_all (before ++ final ∷ []) (kind.Sym y.OpenBracket ∷ kind.Sym y.CloseBracket ∷ us)) stop) (sym (dims_sound us (more, vs) e).0)
      (locals_grow (type_of (base.Named n) (suc more)) vs stop (has_parts before final) d)))
      (λ f g. effects_grow some (Indexed n) ts stop (has_parts before final) g
      (λ e. elim (cases_lt 2 room) [
        | inl up ↦ first_part (effect_grow room (Indexed n) up ts stop (has_parts before final) e)
        | inr low ↦ first_bracket_gone before final ts stop (no_indexed room low n ts stop e)
      ]))

  first_by_name_grow : 1 ≤ room → (d : Dotted) (ts : List Kind) (stop : Fault × List Kind) → DottedEnds d (first ts) → Flagged (reader.has_this room) d → reader.first_named room inner outer d ts ≡ Err stop → First (write_dotted d ts) stop
  unfolding reader.first_named
  first_by_name_grow some (Enclosing before final) ts stop ended flag h =
      effects_grow some (Named (Enclosing before final)) ts stop tt h (λ e. first_part (effect_grow room (Named (Enclosing before final)) (this_room room flag) ts stop tt e))
  first_by_name_grow some (Plain before final) [] stop ended flag h = first_named_grow some before final [] stop ended h
  first_by_name_grow some (Plain before final) (kind.Ident v ∷ ts) stop ended flag h = locals_grow (type_of (base.Named (name_of (before ++ final ∷ []))) 0) (kind.Ident v ∷ ts) stop (has_parts before final) h
  first_by_name_grow some (Plain before final) (kind.Sym y.OpenBracket ∷ ts) stop ended flag h = first_bracketed_grow some before final ts stop h
  first_by_name_grow some (Plain before final) (token ∷ ts) stop ended flag h = first_named_grow some before final (token ∷ ts) stop ended h

  first_name_grow : 1 ≤ room → (head : Text) (ts : List Kind) (stop : Fault × List Kind) → and_then (dotted (reader.has_this room) [] head ts) (reader.first_named room inner outer) ≡ Err stop → First (kind.Ident head ∷ ts) stop
  first_name_grow some head ts stop h =
      on h
      (λ e.
      let f = dotted_fault (reader.has_this room) head ts stop e in
      let into = leading_then (leading_names (f.front ++ f.final ∷ [])) (leading_symbol y.Dot) in
      let more : List Kind → List Kind = λ z. kind.Ident [] ∷ kind.Ident [] ∷ z in
      subst (λ ts. First ts stop) (sym f.split)
      (elim f.why [
        | inl w ↦ gone w into (a_first (f.front ++ f.final ∷ []) [] 0) more (λ z. all_append f.front f.final ([] ∷ []) (kind.Ident [] ∷ z)) (first_is (f.front ++ f.final ∷ []) [] 0) (omega arith)
        | inr w ↦
            subst (λ rest. First (write_all (f.front ++ f.final ∷ []) (kind.Sym y.Dot ∷ rest)) stop) (sym w.1)
            (deeps w.2 into (a_first (f.front ++ f.final ∷ []) [] 0) more (λ z. all_append f.front f.final ([] ∷ []) (kind.Ident [] ∷ z)) (first_is (f.front ++ f.final ∷ []) [] 0) (omega arith)
            (s.Exprs (x.more_exprs (x.PostStep (x.This (Some (name_of (f.front ++ f.final ∷ [])))) y.PlusPlus) x.no_exprs)) (λ z. kind.Sym y.PlusPlus ∷ z) (λ z. refl) (refl, ((refl, (refl, (omega arith, refl), has_parts f.front f.final)), tt)))
      ]))
      (λ n us e d.
      let found = dotted_sound (reader.has_this room) [] head ts (n, us) e in
      subst (λ ts. First ts stop) (sym found.written) (first_by_name_grow some n us stop found.ended (flagged (reader.has_this room) head ts (n, us) e) d))

  abbrev for_typed : Parser (Option s.ForInit)
  for_typed = reader.finality >>= (λ is_final. type_use >>= (λ ty. reader.locals room inner outer is_final ty >>= (λ i. pure (Some i))))

  flat_one : (b : Bool) (ty : TypeUse) (o : Outcome (List s.Declarator)) → and_then (and_then o (λ ds ts. Ok (s.Locals b ty ds, ts))) (λ i ts. Ok (Some i, ts)) ≡ and_then o (λ ds ts. Ok (Some (s.Locals b ty ds), ts))
  flat_one b ty (Ok p) = refl
  flat_one b ty (Err e) = refl

  for_typed_flat : (ts : List Kind) → for_typed ts ≡ and_then (reader.finality ts) (λ b ts. and_then (type_use ts) (λ ty ts. and_then (reader.declarators room ts) (λ ds ts. Ok (Some (s.Locals b ty ds), ts))))
  for_typed_flat ts = and_then_alike (reader.finality ts) _ _ (λ b us. and_then_alike (type_use us) _ _ (λ ty vs. flat_one b ty (reader.declarators room vs)))

  for_other_grow : 1 ≤ room → (token : Kind) (ts : List Kind) (stop : Fault × List Kind)
      → cond (begins_local token) (for_typed (token ∷ ts)) (cond (begins_effect token) (and_then (reader.first_effects room inner outer Nothing (token ∷ ts)) (λ i ts. Ok (Some i, ts))) (Ok (None, token ∷ ts))) ≡ Err stop → First (token ∷ ts) stop
  for_other_grow some token ts stop h =
      choose (begins_local token) h
      (λ t g. locals_part (typed_grow room (λ b t ds. pure (Some (s.Locals b t ds))) (token ∷ ts) stop (sym (for_typed_flat (token ∷ ts)) ∙ g) (λ b t ds us is are same d. absurd (ok_err d))))
      (λ f g. choose (begins_effect token) g (λ t i. effects_grow some Nothing (token ∷ ts) stop tt (last i (λ a us d. ok_err d)) (λ e. first_part (effect_grow room Nothing some (token ∷ ts) stop tt e))) (λ f i. absurd (ok_err i)))

  pub first_grow : 1 ≤ room → (ts : List Kind) (stop : Fault × List Kind) → reader.for_first room inner outer ts ≡ Err stop → First ts stop
  unfolding reader.for_first
  first_grow some [] stop h = absurd (ok_err h)
  first_grow some (kind.Ident head ∷ ts) stop h = first_name_grow some head ts stop (last h (λ i us d. ok_err d))
  first_grow some (token ∷ ts) stop h = for_other_grow some token ts stop h

-- Statements are read the same whatever stands behind, and with more levels.
use Rattle.std.proofs.Common.{◌≡◌, ℕ, zero, suc, ◌≤◌, Bool, true, false, ◌&&◌, cond, ltb, List, [], ◌∷◌, ◌++◌, length, Option, Some, None, Ok, Err, refl, sym, subst, arith}
use Rattle.std.proofs.lemmas.Bool.{or_parts}
use Rattle.std.specs.Prelude.{⊤}
use Rattle.jr_base.specs.declared.text.Text.{Text}
use Rattle.jr_base.specs.declared.kind.Kind.{Kind}
use Rattle.jr_base.specs.declared.kind.Kind.TheVariants as kind
use Rattle.jr_base.specs.declared.kind.Symbol.TheVariants as y
use Rattle.jr_base.specs.declared.kind.Keyword.{Keyword}
use Rattle.jr_base.specs.declared.kind.Keyword.TheVariants as k
use Rattle.jr_tree.specs.declared.tree.Base.TheVariants as base
use Rattle.jr_tree.specs.declared.tree.TypeUse.{TypeUse}
use Rattle.jr_tree.specs.Mirror.Exprs as x
use Rattle.jr_tree.specs.Mirror.Stmts as s
use Rattle.jr_parse_laws.specs.declared.fault.Fault.TheVariants.{NoTree, TooDeep}
use Rattle.jr_parse_laws.specs.Parsers.{Parser, first, pure, refuse, expect, begins_with, many, after_comma, ◌>>=◌, ◌>>◌}
use Rattle.jr_parse_laws.proofs.Outcomes.{ok_is, err_ok, no_first, one_first}
use Rattle.jr_parse_starts.specs.Starts.{begins_effect, starts_expr, next_is, no_level, within, over}
use Rattle.jr_parse_expr.specs.Names.{name_of, type_of, type_use, Dotted, Plain, Enclosing, dotted_from, dotted}
use Rattle.jr_parse_expr.specs.Exprs.{Lead, Nothing, Named, Indexed, next_token, skipping, expr, effect}
use Rattle.jr_parse_expr.proofs.NameReads.{DottedEnds, dotted_sound}
use Rattle.jr_parse_expr.proofs.Locals.{Kept, Local, here, at_token, kept_bind, on_kept, looks_first, kept_same}
use Rattle.jr_parse_expr.proofs.AllLocals.{none_kept_by, raised}
use Rattle.jr_parse_defs.specs.Begins.{stmt_word, begins_stmt, begins_local, begins_block_stmt, starts_stmt, starts_block_stmt, starts_label, is_catch}
use Rattle.jr_parse_defs.specs.Stmts as reader
use Rattle.jr_parse_defs.specs.Writing.{write_stmt, write_catch, write_label}
use Rattle.jr_parse_defs.specs.Follow.{IsStmt}
use Rattle.jr_parse_defs.proofs.Lists.{shortens_by}
use Rattle.jr_parse_defs.proofs.Named.{ReadsOne}
use Rattle.jr_parse_defs.proofs.Blocks as blocks
use Rattle.jr_parse_defs.proofs.Groups as groups
use Rattle.jr_parse_defs.proofs.Statements.{stmt_reads}
use Rattle.jr_parse_defs.proofs.Nears.{Near, then, gives, refuses, symbol, word, skips, if_at, if_word, if_so, if_levels, told, by_token, by_next, same_as, forced, passed, several, several_begun, perhaps}
use Rattle.jr_parse_defs.proofs.PartNears.{Unnamed, effect_up, effect_near, named_kept, whole_near, dims_near, type_near, dotted_near, declarators_near, finality_near, param_near, condition_near, others_near, updates_near}

-- ---- a name with `this` behind it was read where it may

abbrev pub Flagged : Bool → Dotted → Type 0
Flagged b (Plain before last) = ⊤
Flagged b (Enclosing before last) = b ≡ true

flag_from : (b : Bool) (turns : ℕ) (before : List Text) (last : Text) (ts : List Kind) (r : Dotted × List Kind) → dotted_from b turns before last ts ≡ Ok r → Flagged b r.0
flag_from b zero before last ts r h = subst (λ (r : Dotted × List Kind). Flagged b r.0) (ok_is h) tt
flag_from b (suc turns) before last [] r h = subst (λ (r : Dotted × List Kind). Flagged b r.0) (ok_is h) tt
flag_from b (suc turns) before last (kind.Sym y.Dot ∷ []) r h = absurd (err_ok h)
flag_from b (suc turns) before last (kind.Sym y.Dot ∷ kind.Ident part ∷ ts) r h = flag_from b turns (before ++ last ∷ []) part ts r h
flag_from true (suc turns) before last (kind.Sym y.Dot ∷ kind.Word k.This ∷ ts) r h = subst (λ (r : Dotted × List Kind). Flagged true r.0) (ok_is h) refl
flag_from false (suc turns) before last (kind.Sym y.Dot ∷ kind.Word k.This ∷ ts) r h = absurd (err_ok h)
flag_from b (suc turns) before last (kind.Sym y.Dot ∷ token ∷ ts) r h = absurd (err_ok h)
flag_from b (suc turns) before last (token ∷ ts) r h = subst (λ (r : Dotted × List Kind). Flagged b r.0) (ok_is h) tt

pub flagged : (b : Bool) (head : Text) (ts : List Kind) (r : Dotted × List Kind) → dotted b [] head ts ≡ Ok r → Flagged b r.0
unfolding dotted
flagged b head ts r h = flag_from b (length ts) [] head ts r h

pub this_room : (room : ℕ) → reader.has_this room ≡ true → 2 ≤ room
this_room zero h = absurd (cc)
this_room (suc zero) h = absurd (cc)
this_room (suc (suc room)) h = omega arith

-- ---- blocks

module _ (room other : ℕ) (le : room ≤ other) (r r' most most' : ℕ) (inner inner' outer outer' : Parser s.Stmt) (outers : ReadsOne most true outer) (outers' : ReadsOne most' true outer') (near_out : Near room other le outer outer') where
  pub stmts_near : Near room other le (reader.stmts r inner outer) (reader.stmts r' inner' outer')
  unfolding reader.stmts
  stmts_near =
      several starts_block_stmt refl (shortens_by (IsStmt most true) write_stmt outer (blocks.stmts_item r inner outer most outers) (blocks.stmt_longer most))
      (shortens_by (IsStmt most' true) write_stmt outer' (blocks.stmts_item r' inner' outer' most' outers') (blocks.stmt_longer most')) near_out

  block_near : Near room other le (reader.block r inner outer) (reader.block r' inner' outer')
  unfolding reader.block
  block_near = then (symbol y.OpenBrace) (λ u. then stmts_near (λ all. then (symbol y.CloseBrace) (λ v. gives (s.BlockOf (s.stmts all)))))

-- ---- one level

module _ (room other : ℕ) (le : room ≤ other) (inner inner' outer outer' : Parser s.Stmt) (outers : ReadsOne room true outer) (outers' : ReadsOne other true outer') (near : Near room other le inner inner') (near_out : Near room other le outer outer') where
  abbrev stmts_here : Near room other le (reader.stmts room inner outer) (reader.stmts other inner' outer')
  stmts_here = stmts_near room other le room other room other inner inner' outer outer' outers outers' near_out

  abbrev block_here : Near room other le (reader.block room inner outer) (reader.block other inner' outer')
  block_here = block_near room other le room other room other inner inner' outer outer' outers outers' near_out

  -- ---- from a name on

  local_near : (b : Bool) (ty : TypeUse) → Near room other le (reader.local room inner outer b ty) (reader.local other inner' outer' b ty)
  local_near b ty = then (declarators_near room other le) (λ ds. then (symbol y.Semicolon) (λ u. gives (s.Local b ty ds)))

  evaluated_by : (lead : Lead) → Near room other le (effect room lead) (effect other lead) → Near room other le (reader.evaluated room inner outer lead) (reader.evaluated other inner' outer' lead)
  evaluated_by lead one = then one (λ e. then (symbol y.Semicolon) (λ u. gives (s.Eval e)))

  pub evaluated_near : (lead : Lead) → Unnamed lead → Near room other le (reader.evaluated room inner outer lead) (reader.evaluated other inner' outer' lead)
  evaluated_near lead is = evaluated_by lead (effect_near room other le lead is)

  eval_near : (e : x.Expr) → Near room other le (expect y.Semicolon >> pure (s.Eval e)) (expect y.Semicolon >> pure (s.Eval e))
  eval_near e = then (symbol y.Semicolon) (λ u. gives (s.Eval e))

  evaluated_kept : (before : List Text) (last : Text) (ts : List Kind) → begins_with y.Dot (first ts) ≡ false → begins_with y.OpenBracket (first ts) ≡ false
      → Kept room other le (reader.evaluated other inner' outer' (Named (Plain before last))) ts (reader.evaluated room inner outer (Named (Plain before last)) ts)
  evaluated_kept before last ts dot bracket =
      kept_bind room other le (effect other (Named (Plain before last))) (λ e. expect y.Semicolon >> pure (s.Eval e)) (λ e. expect y.Semicolon >> pure (s.Eval e)) ts (effect room (Named (Plain before last)) ts)
      (named_kept room other le before last ts dot bracket) (λ r e. (eval_near r.0).kept r.1)

  bracketed_near : (before : List Text) (last : Text) → Near room other le (reader.bracketed room inner outer before last) (reader.bracketed other inner' outer' before last)
  bracketed_near before last =
      let n = name_of (before ++ last ∷ []) in
      if_at y.CloseBracket (skips (then (dims_near room other le) (λ more. local_near false (type_of (base.Named n) (suc more))))) (evaluated_near (Indexed n) tt)

  labeled_near : (label : Text) → Near room other le (reader.labeled room inner outer label) (reader.labeled other inner' outer' label)
  labeled_near label = then near (λ body. gives (s.Labeled label body))

  abbrev named_first : Bool → List Text → Text → Option Kind → Parser s.Stmt
  named_first declares before last None = reader.evaluated other inner' outer' (Named (Plain before last))
  named_first declares before last (Some token) = reader.named_by other inner' outer' declares before last token

  named_first_is : (declares : Bool) (before : List Text) (last : Text) (us : List Kind) → named_first declares before last (first us) us ≡ reader.named other inner' outer' declares (Plain before last) us
  unfolding reader.named
  named_first_is declares before last [] = refl
  named_first_is declares before last (token ∷ us) = refl

  named_by_kept : (declares : Bool) (before : List Text) (last : Text) (token : Kind) (ts : List Kind) → begins_with y.Dot (Some token) ≡ false
      → Kept room other le (reader.named_by other inner' outer' declares before last token) (token ∷ ts) (reader.named_by room inner outer declares before last token (token ∷ ts))
  named_by_kept true before last (kind.Ident v) ts dot = (local_near false (type_of (base.Named (name_of (before ++ last ∷ []))) 0)).kept (kind.Ident v ∷ ts)
  named_by_kept true before last (kind.Sym y.OpenBracket) ts dot = (skips (bracketed_near before last)).kept (kind.Sym y.OpenBracket ∷ ts)
  named_by_kept false before last (kind.Sym y.OpenBracket) ts dot =
      let n = name_of (before ++ last ∷ []) in
      forced (reader.evaluated room inner outer (Indexed n)) (reader.evaluated other inner' outer' (Indexed n)) (reader.named_by other inner' outer' false before last (kind.Sym y.OpenBracket)) 3 (kind.Sym y.OpenBracket) ts (λ us. refl)
      (evaluated_near (Indexed n) tt)
  named_by_kept true [] last (kind.Sym y.Colon) ts dot =
      forced (reader.labeled room inner outer last) (reader.labeled other inner' outer' last) (reader.named_by other inner' outer' true [] last (kind.Sym y.Colon)) 1 (kind.Sym y.Colon) ts (λ us. refl) (labeled_near last)
  named_by_kept false [] last (kind.Sym y.Colon) ts dot =
      forced (reader.labeled room inner outer last) (reader.labeled other inner' outer' last) (reader.named_by other inner' outer' false [] last (kind.Sym y.Colon)) 1 (kind.Sym y.Colon) ts (λ us. refl) (labeled_near last)
  named_by_kept true before last token ts dot = evaluated_kept before last (token ∷ ts) dot refl
  named_by_kept false before last token ts dot = evaluated_kept before last (token ∷ ts) dot refl

  plain_kept : (declares : Bool) (before : List Text) (last : Text) (ts : List Kind) → begins_with y.Dot (first ts) ≡ false
      → Kept room other le (named_first declares before last (first ts)) ts (reader.named room inner outer declares (Plain before last) ts)
  unfolding reader.named
  plain_kept declares before last [] dot = evaluated_kept before last [] dot refl
  plain_kept declares before last (token ∷ ts) dot = named_by_kept declares before last token ts dot

  named_is_kept : (declares : Bool) (d : Dotted) (ts : List Kind) → DottedEnds d (first ts) → Flagged (reader.has_this room) d
      → Kept room other le (reader.named other inner' outer' declares d) ts (reader.named room inner outer declares d ts)
  unfolding reader.named
  named_is_kept declares (Enclosing before last) ts ended flag =
      let some = this_room room flag in
      (evaluated_by (Named (Enclosing before last)) (effect_up room other le (omega arith) (Named (Enclosing before last)))).kept ts
  named_is_kept declares (Plain before last) ts ended flag =
      kept_same room other le (λ us. named_first declares before last (first us) us) (reader.named other inner' outer' declares (Plain before last)) (named_first_is declares before last) ts
      (reader.named room inner outer declares (Plain before last) ts)
      (on_kept room other le first (named_first declares before last) (looks_first room other le (λ o. o)) ts (reader.named room inner outer declares (Plain before last) ts) (plain_kept declares before last ts ended))

  from_name_near : (declares : Bool) (head : Text)
      → Near room other le (dotted (reader.has_this room) [] head >>= reader.named room inner outer declares) (dotted (reader.has_this other) [] head >>= reader.named other inner' outer' declares)
  from_name_near declares head = record {
    kept = λ ts. kept_bind room other le (dotted (reader.has_this other) [] head) (reader.named room inner outer declares) (reader.named other inner' outer' declares) ts (dotted (reader.has_this room) [] head ts)
        ((dotted_near room other le head).kept ts)
        (λ r e. let found = dotted_sound (reader.has_this room) [] head ts r e in named_is_kept declares r.0 r.1 found.ended (flagged (reader.has_this room) head ts r e));
  }

  -- ---- with a word in front

  do_near : Near room other le (reader.do_stmt room inner outer) (reader.do_stmt other inner' outer')
  unfolding reader.do_stmt
  do_near = then near (λ body. then (word k.While) (λ u. then (condition_near room other le) (λ c. then (symbol y.Semicolon) (λ v. gives (s.Do body c)))))

  while_near : Near room other le (reader.while_stmt room inner outer) (reader.while_stmt other inner' outer')
  unfolding reader.while_stmt
  while_near = then (condition_near room other le) (λ c. then near (λ body. gives (s.While c body)))

  else_near : Near room other le (reader.otherwise room inner outer) (reader.otherwise other inner' outer')
  else_near = if_word k.Else (skips (then near (λ b. gives (s.a_stmt b)))) (gives s.no_stmt)

  if_near : Near room other le (reader.if_stmt room inner outer) (reader.if_stmt other inner' outer')
  unfolding reader.if_stmt
  if_near = then (condition_near room other le) (λ c. then near (λ a. then else_near (λ b. gives (s.If c a b))))

  label_near : Near room other le reader.label reader.label
  label_near = record { kept = go } where
    go : Local room other le reader.label reader.label
    go [] = here room other le reader.label (λ w. Ok (None, w)) [] (λ w e. let n = no_first w e in rw n refl)
    go (kind.Ident n ∷ ts) = record { front = kind.Ident n ∷ []; split = refl; again = λ w e. refl }
    go (token ∷ ts) = here room other le reader.label (λ w. Ok (None, w)) (token ∷ ts) (λ w e. let v = one_first token w e in rw v.1 refl)

  break_near : Near room other le (reader.break_stmt room inner outer) (reader.break_stmt other inner' outer')
  break_near = then label_near (λ l. then (symbol y.Semicolon) (λ u. gives (s.Break l)))

  continue_near : Near room other le (reader.continue_stmt room inner outer) (reader.continue_stmt other inner' outer')
  continue_near = then label_near (λ l. then (symbol y.Semicolon) (λ u. gives (s.Continue l)))

  return_near : Near room other le (reader.return_stmt room inner outer) (reader.return_stmt other inner' outer')
  return_near = then (perhaps starts_expr (whole_near room other le 0)) (λ e. then (symbol y.Semicolon) (λ u. gives (s.Return e)))

  throw_near : Near room other le (reader.throw_stmt room inner outer) (reader.throw_stmt other inner' outer')
  throw_near = then (whole_near room other le 0) (λ e. then (symbol y.Semicolon) (λ u. gives (s.Throw e)))

  -- ---- for

  locals_near : (b : Bool) (ty : TypeUse) → Near room other le (reader.locals room inner outer b ty) (reader.locals other inner' outer' b ty)
  locals_near b ty = then (declarators_near room other le) (λ ds. gives (s.Locals b ty ds))

  first_by : (lead : Lead) → Near room other le (effect room lead) (effect other lead) → Near room other le (reader.first_effects room inner outer lead) (reader.first_effects other inner' outer' lead)
  first_by lead one = then one (λ e. then (others_near room other le) (λ all. gives (s.Exprs (x.more_exprs e (x.exprs all)))))

  later_near : (e : x.Expr)
      → Near room other le (many (begins_with y.Comma) (after_comma (effect room Nothing)) >>= (λ all. pure (s.Exprs (x.more_exprs e (x.exprs all))))) (many (begins_with y.Comma) (after_comma (effect other Nothing)) >>= (λ all. pure (s.Exprs (x.more_exprs e (x.exprs all)))))
  later_near e = then (others_near room other le) (λ all. gives (s.Exprs (x.more_exprs e (x.exprs all))))

  first_kept : (before : List Text) (last : Text) (ts : List Kind) → begins_with y.Dot (first ts) ≡ false → begins_with y.OpenBracket (first ts) ≡ false
      → Kept room other le (reader.first_effects other inner' outer' (Named (Plain before last))) ts (reader.first_effects room inner outer (Named (Plain before last)) ts)
  first_kept before last ts dot bracket =
      kept_bind room other le (effect other (Named (Plain before last))) (λ e. many (begins_with y.Comma) (after_comma (effect room Nothing)) >>= (λ all. pure (s.Exprs (x.more_exprs e (x.exprs all)))))
      (λ e. many (begins_with y.Comma) (after_comma (effect other Nothing)) >>= (λ all. pure (s.Exprs (x.more_exprs e (x.exprs all))))) ts (effect room (Named (Plain before last)) ts)
      (named_kept room other le before last ts dot bracket) (λ r e. (later_near r.0).kept r.1)

  first_bracketed_near : (before : List Text) (last : Text) → Near room other le (reader.first_bracketed room inner outer before last) (reader.first_bracketed other inner' outer' before last)
  first_bracketed_near before last =
      let n = name_of (before ++ last ∷ []) in
      if_at y.CloseBracket (skips (then (dims_near room other le) (λ more. locals_near false (type_of (base.Named n) (suc more))))) (first_by (Indexed n) (effect_near room other le (Indexed n) tt))

  abbrev first_told : List Text → Text → Option Kind → Parser s.ForInit
  first_told before last None = reader.first_effects other inner' outer' (Named (Plain before last))
  first_told before last (Some token) = reader.first_named_by other inner' outer' before last token

  first_told_is : (before : List Text) (last : Text) (us : List Kind) → first_told before last (first us) us ≡ reader.first_named other inner' outer' (Plain before last) us
  unfolding reader.first_named
  first_told_is before last [] = refl
  first_told_is before last (token ∷ us) = refl

  first_by_kept : (before : List Text) (last : Text) (token : Kind) (ts : List Kind) → begins_with y.Dot (Some token) ≡ false
      → Kept room other le (reader.first_named_by other inner' outer' before last token) (token ∷ ts) (reader.first_named_by room inner outer before last token (token ∷ ts))
  first_by_kept before last (kind.Ident v) ts dot = (locals_near false (type_of (base.Named (name_of (before ++ last ∷ []))) 0)).kept (kind.Ident v ∷ ts)
  first_by_kept before last (kind.Sym y.OpenBracket) ts dot = (skips (first_bracketed_near before last)).kept (kind.Sym y.OpenBracket ∷ ts)
  first_by_kept before last token ts dot = first_kept before last (token ∷ ts) dot refl

  first_plain_kept : (before : List Text) (last : Text) (ts : List Kind) → begins_with y.Dot (first ts) ≡ false
      → Kept room other le (first_told before last (first ts)) ts (reader.first_named room inner outer (Plain before last) ts)
  unfolding reader.first_named
  first_plain_kept before last [] dot = first_kept before last [] dot refl
  first_plain_kept before last (token ∷ ts) dot = first_by_kept before last token ts dot

  first_named_kept : (d : Dotted) (ts : List Kind) → DottedEnds d (first ts) → Flagged (reader.has_this room) d → Kept room other le (reader.first_named other inner' outer' d) ts (reader.first_named room inner outer d ts)
  unfolding reader.first_named
  first_named_kept (Enclosing before last) ts ended flag =
      let some = this_room room flag in
      (first_by (Named (Enclosing before last)) (effect_up room other le (omega arith) (Named (Enclosing before last)))).kept ts
  first_named_kept (Plain before last) ts ended flag =
      kept_same room other le (λ us. first_told before last (first us) us) (reader.first_named other inner' outer' (Plain before last)) (first_told_is before last) ts (reader.first_named room inner outer (Plain before last) ts)
      (on_kept room other le first (first_told before last) (looks_first room other le (λ o. o)) ts (reader.first_named room inner outer (Plain before last) ts) (first_plain_kept before last ts ended))

  first_name_near : (head : Text) → Near room other le (dotted (reader.has_this room) [] head >>= reader.first_named room inner outer) (dotted (reader.has_this other) [] head >>= reader.first_named other inner' outer')
  first_name_near head = record {
    kept = λ ts. kept_bind room other le (dotted (reader.has_this other) [] head) (reader.first_named room inner outer) (reader.first_named other inner' outer') ts (dotted (reader.has_this room) [] head ts)
        ((dotted_near room other le head).kept ts)
        (λ r e. let found = dotted_sound (reader.has_this room) [] head ts r e in first_named_kept r.0 r.1 found.ended (flagged (reader.has_this room) head ts r e));
  }

  abbrev for_typed : ℕ → Parser s.Stmt → Parser s.Stmt → Parser (Option s.ForInit)
  for_typed r i o = reader.finality >>= (λ is_final. type_use >>= (λ ty. reader.locals r i o is_final ty >>= (λ i. pure (Some i))))

  for_other_near : (token : Kind)
      → Near room other le
      (λ ts. cond (begins_local token) (for_typed room inner outer ts) (cond (begins_effect token) ((reader.first_effects room inner outer Nothing >>= (λ i. pure (Some i))) ts) (Ok (None, ts))))
      (λ ts. cond (begins_local token) (for_typed other inner' outer' ts) (cond (begins_effect token) ((reader.first_effects other inner' outer' Nothing >>= (λ i. pure (Some i))) ts) (Ok (None, ts))))
  for_other_near token =
      if_so (begins_local token) (then (finality_near room other le) (λ b. then (type_near room other le) (λ ty. then (locals_near b ty) (λ i. gives (Some i)))))
      (if_so (begins_effect token) (then (first_by Nothing (effect_near room other le Nothing tt)) (λ i. gives (Some i))) (gives None))

  for_by_kept : (token : Kind) (ts : List Kind) → Kept room other le (reader.for_first_by other inner' outer' token) (token ∷ ts) (reader.for_first_by room inner outer token (token ∷ ts))
  for_by_kept (kind.Ident head) ts = (skips (then (first_name_near head) (λ i. gives (Some i)))).kept (kind.Ident head ∷ ts)
  for_by_kept token ts = (for_other_near token).kept (token ∷ ts)

  abbrev for_told : Option Kind → Parser (Option s.ForInit)
  for_told None = pure None
  for_told (Some token) = reader.for_first_by other inner' outer' token

  for_told_is : (us : List Kind) → for_told (first us) us ≡ reader.for_first other inner' outer' us
  unfolding reader.for_first
  for_told_is [] = refl
  for_told_is (token ∷ us) = refl

  for_told_kept : (ts : List Kind) → Kept room other le (for_told (first ts)) ts (reader.for_first room inner outer ts)
  unfolding reader.for_first
  for_told_kept [] = here room other le (pure None) (λ w. Ok (None, w)) [] (λ w e. refl)
  for_told_kept (token ∷ ts) = for_by_kept token ts

  for_first_near : Near room other le (reader.for_first room inner outer) (reader.for_first other inner' outer')
  for_first_near = record {
    kept = λ ts. kept_same room other le (λ us. for_told (first us) us) (reader.for_first other inner' outer') for_told_is ts (reader.for_first room inner outer ts)
        (on_kept room other le first for_told (looks_first room other le (λ o. o)) ts (reader.for_first room inner outer ts) (for_told_kept ts));
  }

  for_near : Near room other le (reader.for_stmt room inner outer) (reader.for_stmt other inner' outer')
  unfolding reader.for_stmt
  for_near =
      then (symbol y.OpenParen) (λ a. then for_first_near (λ i. then (symbol y.Semicolon) (λ b. then (perhaps starts_expr (whole_near room other le 0)) (λ c. then (symbol y.Semicolon) (λ d. then (updates_near room other le)
      (λ update. then (symbol y.CloseParen) (λ e. then near (λ body. gives (s.For i c (x.exprs update) body)))))))))

  -- ---- switch

  case_near : Near room other le (expr room Nothing 0 >>= (λ e. expect y.Colon >> pure (s.Case e))) (expr other Nothing 0 >>= (λ e. expect y.Colon >> pure (s.Case e)))
  case_near = then (whole_near room other le 0) (λ e. then (symbol y.Colon) (λ u. gives (s.Case e)))

  default_near : Near room other le (expect y.Colon >> pure s.Default) (expect y.Colon >> pure s.Default)
  default_near = then (symbol y.Colon) (λ u. gives s.Default)

  label_by_kept : (token : Kind) (ts : List Kind) → Kept room other le (next_token (reader.label_by other inner' outer')) (token ∷ ts) (reader.label_by room inner outer token ts)
  label_by_kept (kind.Word k.Case) ts =
      passed (expr room Nothing 0 >>= (λ e. expect y.Colon >> pure (s.Case e))) (expr other Nothing 0 >>= (λ e. expect y.Colon >> pure (s.Case e))) (next_token (reader.label_by other inner' outer')) (kind.Word k.Case) ts (λ us. refl) case_near
  label_by_kept (kind.Word k.Default) ts = passed (expect y.Colon >> pure s.Default) (expect y.Colon >> pure s.Default) (next_token (reader.label_by other inner' outer')) (kind.Word k.Default) ts (λ us. refl) default_near
  label_by_kept token ts = λ wider. at_token room other le (next_token (reader.label_by other inner' outer')) NoTree token ts (λ us. refl)

  case_label_near : Near room other le (next_token (reader.label_by room inner outer)) (next_token (reader.label_by other inner' outer'))
  case_label_near = by_next (reader.label_by room inner outer) (reader.label_by other inner' outer') label_by_kept

  group_near : Near room other le (reader.group room inner outer) (reader.group other inner' outer')
  unfolding reader.group
  group_near =
      then (several starts_label refl (shortens_by (groups.FitsLabel room inner outer outers) write_label (next_token (reader.label_by room inner outer)) (groups.label_sound room inner outer outers) (groups.label_longer room inner outer outers))
      (shortens_by (groups.FitsLabel other inner' outer' outers') write_label (next_token (reader.label_by other inner' outer')) (groups.label_sound other inner' outer' outers') (groups.label_longer other inner' outer' outers')) case_label_near)
      (λ labels. then stmts_here (λ all. gives (s.GroupOf labels (s.stmts all))))

  groups_near : Near room other le (many starts_label (reader.group room inner outer)) (many starts_label (reader.group other inner' outer'))
  groups_near = several_begun starts_label refl (groups.groups_shorten room inner outer outers) (groups.groups_shorten other inner' outer' outers') group_near

  switch_near : Near room other le (reader.switch_stmt room inner outer) (reader.switch_stmt other inner' outer')
  unfolding reader.switch_stmt
  switch_near = then (condition_near room other le) (λ e. then (symbol y.OpenBrace) (λ a. then groups_near (λ gs. then (symbol y.CloseBrace) (λ b. gives (s.Switch e (s.groups gs))))))

  -- ---- try

  catch_near : Near room other le (reader.catch_clause room inner outer) (reader.catch_clause other inner' outer')
  unfolding reader.catch_clause
  catch_near = then (word k.Catch) (λ a. then (symbol y.OpenParen) (λ b. then (param_near room other le) (λ p. then (symbol y.CloseParen) (λ c. then block_here (λ body. gives (s.CatchOf p body))))))

  catches_near : Near room other le (many (next_is is_catch) (reader.catch_clause room inner outer)) (many (next_is is_catch) (reader.catch_clause other inner' outer'))
  catches_near =
      several (next_is is_catch) refl
      (shortens_by (blocks.FitsCatch room inner outer room outers) write_catch (reader.catch_clause room inner outer) (blocks.catch_sound room inner outer room outers) (blocks.catch_longer room inner outer room outers))
      (shortens_by (blocks.FitsCatch other inner' outer' other outers') write_catch (reader.catch_clause other inner' outer') (blocks.catch_sound other inner' outer' other outers') (blocks.catch_longer other inner' outer' other outers')) catch_near

  last_near : Near room other le (reader.block room inner outer >>= (λ b. pure (s.a_block b))) (reader.block other inner' outer' >>= (λ b. pure (s.a_block b)))
  last_near = then block_here (λ b. gives (s.a_block b))

  finally_near : (cs : List s.Catch) → Near room other le (reader.finally_part room inner outer cs) (reader.finally_part other inner' outer' cs)
  finally_near [] = then (word k.Finally) (λ u. last_near)
  finally_near (c ∷ cs) = if_word k.Finally (skips last_near) (gives s.no_block)

  try_near : Near room other le (reader.try_stmt room inner outer) (reader.try_stmt other inner' outer')
  unfolding reader.try_stmt
  try_near = then block_here (λ b. then catches_near (λ cs. then (finally_near cs) (λ last. gives (s.Try b (s.catches cs) last))))

  -- ---- by the first token

  abbrev typed : ℕ → Parser s.Stmt → Parser s.Stmt → Parser s.Stmt
  typed r i o = reader.finality >>= (λ is_final. type_use >>= reader.local r i o is_final)

  abbrev effected : ℕ → Parser s.Stmt → Parser s.Stmt → Parser s.Stmt
  effected r i o ts = next_token (λ token us. within 1 r token (λ vs. reader.evaluated r i o Nothing (token ∷ vs)) us) ts

  told_effected : (r : ℕ) (i o : Parser s.Stmt) (ts : List Kind) → told (λ token. over 1 r (reader.evaluated r i o Nothing)) ts ≡ effected r i o ts
  told_effected r i o [] = refl
  told_effected r i o (token ∷ ts) = refl

  effected_near : Near room other le (effected room inner outer) (effected other inner' outer')
  effected_near =
      same_as (told (λ token. over 1 room (reader.evaluated room inner outer Nothing))) (effected room inner outer) (told (λ token. over 1 other (reader.evaluated other inner' outer' Nothing))) (effected other inner' outer')
      (told_effected room inner outer) (told_effected other inner' outer')
      (by_token (λ token. over 1 room (reader.evaluated room inner outer Nothing)) (λ token. over 1 other (reader.evaluated other inner' outer' Nothing)) (λ token ts. (if_levels 1 (evaluated_near Nothing tt)).kept (token ∷ ts)))

  other_near : (declares : Bool) (token : Kind)
      → Near room other le (λ ts. cond (declares && begins_local token) (typed room inner outer ts) (cond (begins_effect token) (effected room inner outer ts) (refuse ts)))
      (λ ts. cond (declares && begins_local token) (typed other inner' outer' ts) (cond (begins_effect token) (effected other inner' outer' ts) (refuse ts)))
  other_near declares token =
      if_so (declares && begins_local token) (then (finality_near room other le) (λ b. then (type_near room other le) (λ ty. local_near b ty))) (if_so (begins_effect token) effected_near refuses)

  forcing_kept : (declares : Bool) (w : Keyword) (p q : Parser s.Stmt) (ts : List Kind) → ((us : List Kind) → reader.stmt_by other inner' outer' declares (kind.Word w) (kind.Word w ∷ us) ≡ within 1 other (kind.Word w) q us)
      → Near room other le p q → Kept room other le (reader.stmt_by other inner' outer' declares (kind.Word w)) (kind.Word w ∷ ts) (within 1 room (kind.Word w) p ts)
  forcing_kept declares w p q ts same one = forced p q (reader.stmt_by other inner' outer' declares (kind.Word w)) 1 (kind.Word w) ts same one

  skip_near : Near room other le (skipping (pure s.Skip)) (skipping (pure s.Skip))
  skip_near = skips (gives s.Skip)

  stmt_kept : (declares : Bool) (token : Kind) (ts : List Kind) → Kept room other le (reader.stmt_by other inner' outer' declares token) (token ∷ ts) (reader.stmt_by room inner outer declares token (token ∷ ts))
  stmt_kept declares (kind.Sym y.OpenBrace) ts = (then block_here (λ b. gives (s.Nest b))).kept (kind.Sym y.OpenBrace ∷ ts)
  stmt_kept declares (kind.Sym y.Semicolon) ts = skip_near.kept (kind.Sym y.Semicolon ∷ ts)
  stmt_kept declares (kind.Word k.Do) ts = forcing_kept declares k.Do (reader.do_stmt room inner outer) (reader.do_stmt other inner' outer') ts (λ us. refl) do_near
  stmt_kept declares (kind.Word k.While) ts = forcing_kept declares k.While (reader.while_stmt room inner outer) (reader.while_stmt other inner' outer') ts (λ us. refl) while_near
  stmt_kept declares (kind.Word k.If) ts = forcing_kept declares k.If (reader.if_stmt room inner outer) (reader.if_stmt other inner' outer') ts (λ us. refl) if_near
  stmt_kept declares (kind.Word k.For) ts = forcing_kept declares k.For (reader.for_stmt room inner outer) (reader.for_stmt other inner' outer') ts (λ us. refl) for_near
  stmt_kept declares (kind.Word k.Switch) ts = forcing_kept declares k.Switch (reader.switch_stmt room inner outer) (reader.switch_stmt other inner' outer') ts (λ us. refl) switch_near
  stmt_kept declares (kind.Word k.Throw) ts = forcing_kept declares k.Throw (reader.throw_stmt room inner outer) (reader.throw_stmt other inner' outer') ts (λ us. refl) throw_near
  stmt_kept declares (kind.Word k.Break) ts = (skips break_near).kept (kind.Word k.Break ∷ ts)
  stmt_kept declares (kind.Word k.Continue) ts = (skips continue_near).kept (kind.Word k.Continue ∷ ts)
  stmt_kept declares (kind.Word k.Return) ts = (skips return_near).kept (kind.Word k.Return ∷ ts)
  stmt_kept declares (kind.Word k.Try) ts = (skips try_near).kept (kind.Word k.Try ∷ ts)
  stmt_kept true (kind.Ident head) ts = (skips (from_name_near true head)).kept (kind.Ident head ∷ ts)
  stmt_kept false (kind.Ident head) ts =
      forced (dotted (reader.has_this room) [] head >>= reader.named room inner outer false) (dotted (reader.has_this other) [] head >>= reader.named other inner' outer' false)
      (reader.stmt_by other inner' outer' false (kind.Ident head)) 1 (kind.Ident head) ts (λ us. refl) (from_name_near false head)
  stmt_kept declares token ts = (other_near declares token).kept (token ∷ ts)

  told_stmt : (r : ℕ) (i o : Parser s.Stmt) (declares : Bool) (ts : List Kind) → told (reader.stmt_by r i o declares) ts ≡ reader.stmt_of r i o declares ts
  unfolding reader.stmt_of
  told_stmt r i o declares [] = refl
  told_stmt r i o declares (token ∷ ts) = refl

  level_near : (declares : Bool) → Near room other le (reader.stmt_of room inner outer declares) (reader.stmt_of other inner' outer' declares)
  level_near declares =
      same_as (told (reader.stmt_by room inner outer declares)) (reader.stmt_of room inner outer declares) (told (reader.stmt_by other inner' outer' declares)) (reader.stmt_of other inner' outer' declares)
      (told_stmt room inner outer declares) (told_stmt other inner' outer' declares) (by_token (reader.stmt_by room inner outer declares) (reader.stmt_by other inner' outer' declares) (stmt_kept declares))

-- ---- of any number of levels

module _ (room : ℕ) (inner outer : Parser s.Stmt) where
  abbrev with_type : Parser s.Stmt
  with_type = reader.finality >>= (λ is_final. type_use >>= reader.local room inner outer is_final)

  other_refused : (declares : Bool) (token : Kind) (ts : List Kind) → declares && begins_local token ≡ false → begins_effect token ≡ false
      → cond (declares && begins_local token) (with_type (token ∷ ts)) (cond (begins_effect token) (cond (ltb room 1) (Err (TooDeep, token ∷ ts)) (reader.evaluated room inner outer Nothing (token ∷ ts))) (Err (NoTree, token ∷ ts)))
      ≡ Err (NoTree, token ∷ ts)
  other_refused declares token ts h g = rw (h, g) refl

  abbrev begins_some : Bool → Kind → Bool
  begins_some true = begins_block_stmt
  begins_some false = begins_stmt

  no_local : (declares : Bool) (token : Kind) → begins_some declares token ≡ false → declares && begins_local token ≡ false
  no_local true token h = (or_parts (begins_stmt token) (begins_local token) h).1
  no_local false token h = refl

  no_stmt : (declares : Bool) (token : Kind) → begins_some declares token ≡ false → begins_stmt token ≡ false
  no_stmt true token h = (or_parts (begins_stmt token) (begins_local token) h).0
  no_stmt false token h = h

  no_effect : (token : Kind) → begins_stmt token ≡ false → begins_effect token ≡ false
  no_effect (kind.Sym y.OpenBrace) h = absurd (cc)
  no_effect (kind.Sym y.Semicolon) h = absurd (cc)
  no_effect (kind.Word w) h = (or_parts (stmt_word w) (begins_effect (kind.Word w)) h).1
  no_effect token h = h

  of_refused : (declares : Bool) (ts : List Kind) → next_is (begins_some declares) (first ts) ≡ false → reader.stmt_of room inner outer declares ts ≡ Err (NoTree, ts)
  unfolding reader.stmt_of
  of_refused declares [] h = refl
  of_refused declares (kind.Sym y.OpenBrace ∷ ts) h = absurd (let g = no_stmt declares (kind.Sym y.OpenBrace) h in cc)
  of_refused declares (kind.Sym y.Semicolon ∷ ts) h = absurd (let g = no_stmt declares (kind.Sym y.Semicolon) h in cc)
  of_refused declares (kind.Word k.Do ∷ ts) h = absurd (let g = no_stmt declares (kind.Word k.Do) h in cc)
  of_refused declares (kind.Word k.While ∷ ts) h = absurd (let g = no_stmt declares (kind.Word k.While) h in cc)
  of_refused declares (kind.Word k.If ∷ ts) h = absurd (let g = no_stmt declares (kind.Word k.If) h in cc)
  of_refused declares (kind.Word k.For ∷ ts) h = absurd (let g = no_stmt declares (kind.Word k.For) h in cc)
  of_refused declares (kind.Word k.Switch ∷ ts) h = absurd (let g = no_stmt declares (kind.Word k.Switch) h in cc)
  of_refused declares (kind.Word k.Throw ∷ ts) h = absurd (let g = no_stmt declares (kind.Word k.Throw) h in cc)
  of_refused declares (kind.Word k.Break ∷ ts) h = absurd (let g = no_stmt declares (kind.Word k.Break) h in cc)
  of_refused declares (kind.Word k.Continue ∷ ts) h = absurd (let g = no_stmt declares (kind.Word k.Continue) h in cc)
  of_refused declares (kind.Word k.Return ∷ ts) h = absurd (let g = no_stmt declares (kind.Word k.Return) h in cc)
  of_refused declares (kind.Word k.Try ∷ ts) h = absurd (let g = no_stmt declares (kind.Word k.Try) h in cc)
  of_refused declares (kind.Ident head ∷ ts) h = absurd (let g = no_stmt declares (kind.Ident head) h in cc)
  of_refused declares (token ∷ ts) h = other_refused declares token ts (no_local declares token h) (no_effect token (no_stmt declares token h))

abbrev pub starts_some : Bool → Option Kind → Bool
starts_some true = starts_block_stmt
starts_some false = starts_stmt

pub stmt_zero : (declares : Bool) (ts : List Kind) → reader.stmt zero declares ts ≡ no_level (starts_some declares) ts
unfolding reader.stmt
stmt_zero true ts = refl
stmt_zero false ts = refl

stmt_refused : (room : ℕ) (declares : Bool) (ts : List Kind) → starts_some declares (first ts) ≡ false → reader.stmt room declares ts ≡ Err (NoTree, ts)
unfolding reader.stmt
stmt_refused zero true ts h = rw h refl
stmt_refused zero false ts h = rw h refl
stmt_refused (suc room) true ts h = of_refused room (reader.stmt room false) (reader.stmt room true) true ts h
stmt_refused (suc room) false ts h = of_refused room (reader.stmt room false) (reader.stmt room true) false ts h

pub raise : {A : Type 0} {p q : Parser A} (room other : ℕ) (le : room ≤ other) (le' : suc room ≤ suc other) → Near room other le p q → Near (suc room) (suc other) le' p q
raise {p = p} {q = q} room other le le' one = record { kept = λ ts. raised room other le le' q ts (p ts) (one.kept ts) }

pub stmt_near : (room other : ℕ) (le : room ≤ other) (declares : Bool) → Near room other le (reader.stmt room declares) (reader.stmt other declares)
unfolding reader.stmt
stmt_near zero other le declares = record {
  kept = λ ts. subst (Kept zero other le (reader.stmt other declares) ts) (sym (stmt_zero declares ts))
      (none_kept_by other le (starts_some declares) (λ n. reader.stmt n declares) ts (starts_some declares (first ts)) refl (stmt_zero declares) (λ w h. stmt_refused other declares w h));
}
stmt_near (suc room) zero le declares = absurd (omega arith)
stmt_near (suc room) (suc other) le declares =
    let low : room ≤ other = omega arith in
    raise room other low le
    (level_near room other low (reader.stmt room false) (reader.stmt other false) (reader.stmt room true) (reader.stmt other true) (stmt_reads room true) (stmt_reads other true) (stmt_near room other low false) (stmt_near room other low true) declares)

pub body_near : (room other : ℕ) (le : room ≤ other) → Near room other le (reader.body room) (reader.body other)
body_near room other le =
    block_near room other le room other room other (reader.stmt room false) (reader.stmt other false) (reader.stmt room true) (reader.stmt other true) (stmt_reads room true) (stmt_reads other true) (stmt_near room other le true)

-- Lists of initializers, and expressions of any number of levels, are read the same whatever stands behind.
use Rattle.std.proofs.Common.{◌≡◌, ℕ, zero, suc, ◌+◌, ◌-◌, zero-add, ◌≤◌, Bool, true, false, ◌||◌, cond, List, [], ◌∷◌, ◌++◌, length, Option, Some, None, Ok, Err, refl, sym, ap, ◌∙◌, subst, arith}
use Rattle.std.proofs.lemmas.Bool.{or_parts}
use Rattle.jr_base.specs.declared.kind.Kind.{Kind}
use Rattle.jr_base.specs.declared.kind.Kind.TheVariants as kind
use Rattle.jr_base.specs.declared.kind.Symbol.{Symbol}
use Rattle.jr_base.specs.declared.kind.Symbol.TheVariants as y
use Rattle.jr_base.specs.declared.kind.Keyword.TheVariants as k
use Rattle.jr_tree.specs.Levels.{is_unary, is_step}
use Rattle.jr_tree.specs.Mirror.Exprs as x
use Rattle.jr_parse_laws.specs.declared.fault.Fault.{Fault}
use Rattle.jr_parse_laws.specs.declared.fault.Fault.TheVariants.{NoTree, TooDeep, OutOfMemory}
use Rattle.jr_parse_laws.specs.Parsers.{Outcome, Parser, and_then, first, is_at, is_symbol, pure, refuse, expect, ◌>>=◌, ◌>>◌}
use Rattle.jr_parse_laws.specs.Viable.{Wider, Alike}
use Rattle.jr_parse_laws.proofs.Outcomes.{and_then_when, cond_same, no_first, ok_err, err_is}
use Rattle.jr_parse_starts.specs.Starts.{begins_cast_operand, begins_operand, begins_primary, is_plain_literal, starts_expr, starts_list, starts_init, no_level}
use Rattle.jr_parse_expr.specs.Exprs as reader
use Rattle.jr_parse_expr.specs.Exprs.{Lead, Nothing, skipping, expr, list}
use Rattle.jr_parse_expr.proofs.Written.{init_longer}
use Rattle.jr_parse_expr.proofs.Asked.{ReadsExprs, ReadsLists}
use Rattle.jr_parse_expr.proofs.Initializers.{init_sound}
use Rattle.jr_parse_expr.proofs.ExprReads.{all_read}
use Rattle.jr_parse_expr.proofs.Locals.{Again, Kept, Local, here, along, local_pure, kept_bind, local_skip, local_expect, looks_at, looks_first, kept_same, kept_if, local_if}
use Rattle.jr_parse_expr.proofs.ExprLocals.{NearExprs, bind, first_prefix, first_operand, first_operand_is}
use Rattle.jr_parse_expr.proofs.LevelLocals.{operations_local}

module _ (room : ℕ) (inner : Lead → ℕ → Parser x.Expr) (list : Parser x.InitList) where
  -- ---- items of a list: a turn, and then the others

  abbrev an_item : Parser (List x.Init × Bool) → Parser (List x.Init × Bool)
  an_item more = λ us. cond (starts_init (first us)) ((reader.init_of room inner list >>= (λ i. more >>= (λ r. pure ((i ∷ r.0, r.1))))) us) (Ok (([], true), us))

  abbrev a_turn : Parser (List x.Init × Bool) → Parser (List x.Init × Bool)
  a_turn more = λ us. cond (is_at y.Comma us) (skipping (an_item more) us) (Ok (([], false), us))

  module _ (reads : ReadsExprs room inner) (lists : ReadsLists room list) where
    init_keeps : (ts : List Kind) (i : x.Init) (rest : List Kind) → reader.init_of room inner list ts ≡ Ok (i, rest) → length rest ≤ length ts
    init_keeps ts i rest h =
        let found = init_sound room inner list reads lists ts (i, rest) h in
        let same = ap (λ (ts : List Kind). length ts) found.written in
        let l = init_longer i rest in
        omega arith

    more_items : (turns : ℕ) (ts : List Kind) → length ts ≤ turns → reader.after_item_from room inner list (suc turns) ts ≡ reader.after_item_from room inner list turns ts
    more_items zero [] l = refl
    more_items zero (token ∷ ts) l = absurd (omega arith)
    more_items (suc turns) [] l = refl
    more_items (suc turns) (token ∷ ts) l =
        cond_same (is_symbol y.Comma token) _ _ (Ok (([], false), token ∷ ts)) (λ _. cond_same (starts_init (first ts)) _ _ (Ok (([], true), ts)) (λ _.
        and_then_when (reader.init_of room inner list ts) _ _ (λ i rest h.
        let s = init_keeps ts i rest h in
        ap (λ o. and_then o (λ r. pure ((i ∷ r.0, r.1)))) (more_items turns rest (omega arith)))))

    enough_items : (d : ℕ) (ts : List Kind) → reader.after_item_from room inner list (d + length ts) ts ≡ reader.after_item_from room inner list (length ts) ts
    enough_items zero ts = rw zero-add refl
    enough_items (suc d) ts = let n : suc d + length ts ≡ suc (d + length ts) = omega arith in ap (λ n. reader.after_item_from room inner list n ts) n ∙ more_items (d + length ts) ts (omega arith) ∙ enough_items d ts

    items_unroll : (ts : List Kind) → a_turn (reader.after_item room inner list) ts ≡ reader.after_item room inner list ts
    unfolding reader.after_item
    items_unroll [] = refl
    items_unroll (token ∷ ts) =
        cond_same (is_symbol y.Comma token) _ _ (Ok (([], false), token ∷ ts)) (λ _. cond_same (starts_init (first ts)) _ _ (Ok (([], true), ts)) (λ _.
        and_then_when (reader.init_of room inner list ts) _ _ (λ i rest h.
        let s = init_keeps ts i rest h in
        let d : (length ts - length rest) + length rest ≡ length ts = omega arith in
        ap (λ o. and_then o (λ r. pure ((i ∷ r.0, r.1)))) (sym (enough_items (length ts - length rest) rest) ∙ ap (λ n. reader.after_item_from room inner list n rest) d))))

  -- what begins no operand is refused

  prefix_refused : (s : Symbol) (w : List Kind) → is_unary s ≡ false → is_step s ≡ false → first_prefix room inner list s w ≡ Err (NoTree, w)
  prefix_refused s w u t = rw (u, t) refl

  plain_refused : (token : Kind) (w : List Kind) → is_plain_literal token ≡ false → cond {A = Outcome x.Expr} (is_plain_literal token) (skipping (pure (x.Lit token)) w) (refuse w) ≡ Err (NoTree, w)
  plain_refused token w h = rw h refl

  not_plain : (token : Kind) → begins_cast_operand token ≡ false → is_plain_literal token ≡ false
  not_plain (kind.Word w) h = (or_parts (begins_primary w) (is_plain_literal (kind.Word w)) h).1
  not_plain (kind.Ident name) h = absurd (cc)
  not_plain (kind.Sym s) h = refl
  not_plain token h = h

  sign_parts : (s : Symbol) → begins_operand (kind.Sym s) ≡ false → (is_unary s ≡ false) × (is_step s ≡ false)
  sign_parts s h =
      let p = or_parts (begins_cast_operand (kind.Sym s) || is_unary s) (is_step s) h in
      let q = or_parts (begins_cast_operand (kind.Sym s)) (is_unary s) p.0 in
      (q.1, p.1)

  first_refused : (o : Option Kind) (w : List Kind) → starts_expr o ≡ false → first_operand room inner list o w ≡ Err (NoTree, w)
  first_refused None w h = refl
  first_refused (Some (kind.Ident name)) w h = absurd (cc)
  first_refused (Some (kind.Word k.This)) w h = absurd (cc)
  first_refused (Some (kind.Word k.Super)) w h = absurd (cc)
  first_refused (Some (kind.Word k.New)) w h = absurd (cc)
  first_refused (Some (kind.Sym y.OpenParen)) w h = absurd (cc)
  first_refused (Some (kind.Sym y.Minus)) w h = absurd (cc)
  first_refused (Some (kind.Sym s)) w h = let p = sign_parts s h in prefix_refused s w p.0 p.1
  first_refused (Some token) w h = plain_refused token w (not_plain token h)

  level_refused : (least : ℕ) (w : List Kind) → starts_expr (first w) ≡ false → reader.operations room inner list Nothing least w ≡ Err (NoTree, w)
  unfolding reader.operations
  level_refused least w h =
      ap (λ o. and_then (and_then o (reader.suffixes room inner list)) (reader.climb room inner list least)) (sym (first_operand_is room inner list w) ∙ first_refused (first w) w h)

  list_refused : (w : List Kind) → starts_list (first w) ≡ false → reader.braces room inner list w ≡ Err (NoTree, w)
  unfolding reader.braces
  list_refused [] h = refl
  list_refused (kind.Sym y.OpenBrace ∷ w) h = absurd (cc)
  list_refused (token ∷ w) h = refl

module _ (room other : ℕ) (le : room ≤ other) (inner inner' : Lead → ℕ → Parser x.Expr) (list list' : Parser x.InitList) (reads : ReadsExprs room inner) (reads' : ReadsExprs other inner') (lists : ReadsLists room list) (lists' : ReadsLists other list')
    (near : NearExprs room other le inner inner') (near_list : Local room other le list list') where
  then : {A B : Type 0} (p q : Parser A) (f g : A → Parser B) → Local room other le p q → ((a : A) → Local room other le (f a) (g a)) → Local room other le (p >>= f) (q >>= g)
  then p q f g one next = bind room other le inner inner' list list' reads reads' near near_list p q f g one next

  pub init_local : Local room other le (reader.init_of room inner list) (reader.init_of other inner' list')
  unfolding reader.init_of
  init_local =
      local_if room other le (λ ts. starts_list (first ts)) (list >>= (λ l. pure (x.Listed l))) (list' >>= (λ l. pure (x.Listed l))) (inner Nothing 0 >>= (λ v. pure (x.Value v))) (inner' Nothing 0 >>= (λ v. pure (x.Value v)))
      (looks_first room other le starts_list) (then list list' (λ l. pure (x.Listed l)) (λ l. pure (x.Listed l)) near_list (λ l. local_pure room other le (x.Listed l)))
      (then (inner Nothing 0) (inner' Nothing 0) (λ v. pure (x.Value v)) (λ v. pure (x.Value v)) (near.plain 0) (λ v. local_pure room other le (x.Value v)))

  abbrev others' : Parser (List x.Init × Bool)
  others' = reader.after_item other inner' list'

  none_kept : Kept room other le others' [] (Ok (([], false), []))
  none_kept =
      kept_same room other le (a_turn other inner' list' others') others' (items_unroll other inner' list' reads' lists') [] (Ok (([], false), []))
      (here room other le (a_turn other inner' list' others') (λ w. Ok (([], false), w)) [] (λ w f. let n = no_first w f in rw n refl))

  from_kept : (turns : ℕ) (ts : List Kind) → length ts ≤ turns → Kept room other le others' ts (reader.after_item_from room inner list turns ts)
  from_kept zero [] l = none_kept
  from_kept zero (token ∷ ts) l = absurd (omega arith)
  from_kept (suc turns) [] l = none_kept
  from_kept (suc turns) (token ∷ ts) l =
      kept_same room other le (a_turn other inner' list' others') others' (items_unroll other inner' list' reads' lists') (token ∷ ts) (reader.after_item_from room inner list (suc turns) (token ∷ ts))
      (kept_if room other le (is_at y.Comma) (skipping (an_item other inner' list' others')) (λ us. Ok (([], false), us)) (token ∷ ts) (an_item room inner list (reader.after_item_from room inner list turns) ts) (Ok (([], false), token ∷ ts))
      (looks_at room other le y.Comma)
      (λ _. along room other le (an_item other inner' list' others') (skipping (an_item other inner' list' others')) token ts (an_item room inner list (reader.after_item_from room inner list turns) ts) (λ us. refl)
      (kept_if room other le (λ us. starts_init (first us)) (reader.init_of other inner' list' >>= (λ i. others' >>= (λ r. pure ((i ∷ r.0, r.1))))) (λ us. Ok (([], true), us)) ts
      ((reader.init_of room inner list >>= (λ i. reader.after_item_from room inner list turns >>= (λ r. pure ((i ∷ r.0, r.1))))) ts) (Ok (([], true), ts)) (looks_first room other le starts_init)
      (λ _. kept_bind room other le (reader.init_of other inner' list') (λ i. reader.after_item_from room inner list turns >>= (λ r. pure ((i ∷ r.0, r.1)))) (λ i. others' >>= (λ r. pure ((i ∷ r.0, r.1)))) ts
      (reader.init_of room inner list ts) (init_local ts)
      (λ i h.
      let s = init_keeps room inner list reads lists ts i.0 i.1 h in
      kept_bind room other le others' (λ r. pure ((i.0 ∷ r.0, r.1))) (λ r. pure ((i.0 ∷ r.0, r.1))) i.1 (reader.after_item_from room inner list turns i.1) (from_kept turns i.1 (omega arith)) (λ r f. local_pure room other le ((i.0 ∷ r.0.0, r.0.1)) r.1)))
      (λ _. here room other le (λ us. Ok (([], true), us)) (λ w. Ok (([], true), w)) ts (λ w f. refl))))
      (λ _. here room other le (λ us. Ok (([], false), us)) (λ w. Ok (([], false), w)) (token ∷ ts) (λ w f. refl)))

  after_local : Local room other le (reader.after_item room inner list) (reader.after_item other inner' list')
  unfolding reader.after_item
  after_local ts = from_kept (length ts) ts (omega arith)

  items_local : Local room other le (reader.items room inner list) (reader.items other inner' list')
  unfolding reader.items
  items_local =
      local_if room other le (λ ts. starts_init (first ts)) (reader.init_of room inner list >>= (λ i. reader.after_item room inner list >>= (λ r. pure ((i ∷ r.0, r.1))))) (reader.init_of other inner' list' >>= (λ i. others' >>= (λ r. pure ((i ∷ r.0, r.1)))))
      (λ ts. cond (is_at y.Comma ts) (skipping (pure (([], true))) ts) (Ok (([], false), ts))) (λ ts. cond (is_at y.Comma ts) (skipping (pure (([], true))) ts) (Ok (([], false), ts))) (looks_first room other le starts_init)
      (then (reader.init_of room inner list) (reader.init_of other inner' list') (λ i. reader.after_item room inner list >>= (λ r. pure ((i ∷ r.0, r.1)))) (λ i. others' >>= (λ r. pure ((i ∷ r.0, r.1)))) init_local
      (λ i. then (reader.after_item room inner list) others' (λ r. pure ((i ∷ r.0, r.1))) (λ r. pure ((i ∷ r.0, r.1))) after_local (λ r. local_pure room other le ((i ∷ r.0, r.1)))))
      (local_if room other le (is_at y.Comma) (skipping (pure (([], true)))) (skipping (pure (([], true)))) (pure (([], false))) (pure (([], false))) (looks_at room other le y.Comma)
      (local_skip room other le (pure (([], true))) (pure (([], true))) (local_pure room other le (([], true)))) (local_pure room other le (([], false))))

  pub braces_local : Local room other le (reader.braces room inner list) (reader.braces other inner' list')
  unfolding reader.braces
  braces_local =
      then (expect y.OpenBrace) (expect y.OpenBrace) (λ u. reader.items room inner list >>= (λ r. expect y.CloseBrace >> pure (x.ListOf (x.inits r.0) r.1))) (λ u. reader.items other inner' list' >>= (λ r. expect y.CloseBrace >> pure (x.ListOf (x.inits r.0) r.1)))
      (local_expect room other le y.OpenBrace)
      (λ u. then (reader.items room inner list) (reader.items other inner' list') (λ r. expect y.CloseBrace >> pure (x.ListOf (x.inits r.0) r.1)) (λ r. expect y.CloseBrace >> pure (x.ListOf (x.inits r.0) r.1)) items_local
      (λ r. then (expect y.CloseBrace) (expect y.CloseBrace) (λ v. pure (x.ListOf (x.inits r.0) r.1)) (λ v. pure (x.ListOf (x.inits r.0) r.1)) (local_expect room other le y.CloseBrace) (λ v. local_pure room other le (x.ListOf (x.inits r.0) r.1))))

-- ---- of any number of levels

-- where no level is left
pub none_kept_by : {A : Type 0} (other : ℕ) (le : zero ≤ other) (starts : Option Kind → Bool) (q : ℕ → Parser A) (ts : List Kind) (b : Bool) → starts (first ts) ≡ b → ((w : List Kind) → q zero w ≡ no_level starts w)
    → ((w : List Kind) → starts (first w) ≡ false → q other w ≡ Err (NoTree, w)) → Kept zero other le (q other) ts (cond b (Err (TooDeep, ts)) (Err (NoTree, ts)))
none_kept_by other le starts q ts true h low refused = λ wider. here zero other le (q other) (λ w. Err (TooDeep, w)) ts (λ w e. let n : other ≡ zero = wider in ap (λ n. q n w) n ∙ low w ∙ rw (sym (ap starts e) ∙ h) refl)
none_kept_by other le starts q ts false h low refused = λ wider. here zero other le (q other) (λ w. Err (NoTree, w)) ts (λ w e. refused w (sym (ap starts e) ∙ h))

expr_zero : (lead : Lead) (least : ℕ) (w : List Kind) → expr zero lead least w ≡ no_level starts_expr w
unfolding expr
expr_zero lead least w = refl

pub expr_refused : (other least : ℕ) (w : List Kind) → starts_expr (first w) ≡ false → expr other Nothing least w ≡ Err (NoTree, w)
unfolding expr
expr_refused zero least w h = rw h refl
expr_refused (suc other) least w h = level_refused other (expr other) (list other) least w h

list_zero : (w : List Kind) → list zero w ≡ no_level starts_list w
unfolding list
list_zero w = refl

lists_refused : (other : ℕ) (w : List Kind) → starts_list (first w) ≡ false → list other w ≡ Err (NoTree, w)
unfolding list
lists_refused zero w h = rw h refl
lists_refused (suc other) w h = list_refused other (expr other) (list other) w h

down : (f : Fault) (room other : ℕ) → Wider f (suc room) (suc other) → Wider f room other
down NoTree room other h = omega arith
down TooDeep room other h = omega arith
down OutOfMemory room other h = h

-- from a level's parts to the level
pub raised : {A : Type 0} (room other : ℕ) (le : room ≤ other) (le' : suc room ≤ suc other) (q : Parser A) (ts : List Kind) (o : Outcome A) → Kept room other le q ts o → Kept (suc room) (suc other) le' q ts o
raised room other le le' q ts (Ok r) a = a
raised room other le le' q ts (Err stop) k = λ wider. k (down stop.0 room other wider)

pub record AllLocal (room other : ℕ) (le : room ≤ other) : Type 0 where
  pub exprs : NearExprs room other le (expr room) (expr other)
  pub lists : Local room other le (list room) (list other)

pub all_local : (room other : ℕ) (le : room ≤ other) → AllLocal room other le
unfolding expr list
all_local zero other le = record {
  exprs = record {
    plain = λ least ts. none_kept_by other le starts_expr (λ n. expr n Nothing least) ts (starts_expr (first ts)) refl (expr_zero Nothing least) (expr_refused other least);
    led = λ some. absurd (omega arith);
  };
  lists = λ ts. none_kept_by other le starts_list list ts (starts_list (first ts)) refl list_zero (lists_refused other);
}
all_local (suc room) zero le = absurd (omega arith)
all_local (suc room) (suc other) le =
    let low : room ≤ other = omega arith in
    let one = all_read room in
    let two = all_read other in
    let before = all_local room other low in
    record {
      exprs = record {
        plain = λ least ts. raised room other low le (expr (suc other) Nothing least) ts (expr (suc room) Nothing least ts)
            (operations_local room other low (expr room) (expr other) (list room) (list other) one.exprs two.exprs before.exprs before.lists Nothing least ts);
        led = λ some lead least ts. raised room other low le (expr (suc other) lead least) ts (expr (suc room) lead least ts)
            (operations_local room other low (expr room) (expr other) (list room) (list other) one.exprs two.exprs before.exprs before.lists lead least ts);
      };
      lists = λ ts. raised room other low le (list (suc other)) ts (list (suc room) ts)
          (braces_local room other low (expr room) (expr other) (list room) (list other) one.exprs two.exprs one.lists two.lists before.exprs before.lists ts);
    }

-- ---- the fault is the same whatever follows its token

pub wider_le : (f : Fault) (room other : ℕ) → Wider f room other → room ≤ other
wider_le NoTree room other h = h
wider_le TooDeep room other h = omega arith
wider_le OutOfMemory room other h = absurd h

pub alone_by : {A : Type 0} (room other : ℕ) (le : room ≤ other) (q : Parser A) (ts : List Kind) (o : Outcome A) (f : Fault) (rest : List Kind) → o ≡ Err (f, rest) → Kept room other le q ts o → Wider f room other → Again q (λ w. Err (f, w)) ts rest
alone_by room other le q ts (Ok r) f rest e k wider = absurd (ok_err e)
alone_by room other le q ts (Err stop) f rest e k wider =
    subst (λ (stop : Fault × List Kind). Again q (λ w. Err (stop.0, w)) ts stop.1) (err_is e) (k (subst (λ (stop : Fault × List Kind). Wider stop.0 room other) (sym (err_is e)) wider))

pub expr_alone : (room least : ℕ) (ts : List Kind) (f : Fault) (rest : List Kind) → expr room Nothing least ts ≡ Err (f, rest) → (other : ℕ) (w : List Kind) → Wider f room other → first rest ≡ first w
    → (us : List Kind) × Alike rest w ts us × (expr other Nothing least us ≡ Err (f, w))
expr_alone room least ts f rest h other w wider e =
    let le = wider_le f room other wider in
    let a = alone_by room other le (expr other Nothing least) ts (expr room Nothing least ts) f rest h ((all_local room other le).exprs.plain least ts) wider in
    (a.front ++ w, record { front = a.front; one = a.split; two = refl }, a.again w e)

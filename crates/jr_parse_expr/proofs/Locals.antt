-- A reader that stopped stops at the same place whatever follows the token there, and with more levels too.
use Rattle.std.proofs.Common.{◌≡◌, ℕ, zero, suc, ◌≤◌, Bool, true, false, cond, ltb, List, [], ◌∷◌, ◌++◌, length, Option, None, Ok, Err, refl, sym, ap, ◌∙◌, subst, inl, inr, append_assoc, arith}
use Rattle.std.proofs.lemmas.Bool.{cases_Bool, ltb-false, le-ltb}
use Rattle.jr_base.specs.declared.kind.Kind.{Kind}
use Rattle.jr_base.specs.declared.kind.Symbol.{Symbol}
use Rattle.jr_parse_laws.specs.declared.fault.Fault.{Fault}
use Rattle.jr_parse_laws.specs.declared.fault.Fault.TheVariants.{NoTree, TooDeep}
use Rattle.jr_parse_laws.specs.Parsers.{Outcome, Parser, and_then, first, pure, refuse, is_at, expect, identifier, is_symbol, many_from, many, ◌>>=◌}
use Rattle.jr_parse_laws.specs.Viable.{Wider}
use Rattle.jr_parse_laws.proofs.Outcomes.{no_first, one_first}
use Rattle.jr_parse_laws.proofs.Stops.{first_front}
use Rattle.jr_parse_laws.proofs.Exact.{OneToken, symbol_token, identifier_token}
use Rattle.jr_parse_laws.proofs.Lists.{Shortens, many_over, many_turn}
use Rattle.jr_parse_starts.specs.Starts.{over}
use Rattle.jr_parse_expr.specs.Exprs.{skipping, next_token}

-- what stands before rest, and what q answers where anything stands behind it that begins as rest does
pub record Again {A : Type 0} (q : Parser A) (answer : List Kind → Outcome A) (ts rest : List Kind) : Type 0 where
  pub front : List Kind
  pub split : ts ≡ front ++ rest
  pub again : (w : List Kind) → first rest ≡ first w → q (front ++ w) ≡ answer w

module _ (room other : ℕ) (le : room ≤ other) where
  -- what was answered from ts, q answers again
  abbrev pub Kept : {A : Type 0} → Parser A → List Kind → Outcome A → Type 0
  Kept q ts (Ok r) = Again q (λ w. Ok (r.0, w)) ts r.1
  Kept q ts (Err stop) = Wider stop.0 room other → Again q (λ w. Err (stop.0, w)) ts stop.1

  abbrev pub Local : {A : Type 0} → Parser A → Parser A → Type 0
  Local p q = (ts : List Kind) → Kept q ts (p ts)

  pub here : {A : Type 0} (q : Parser A) (answer : List Kind → Outcome A) (ts : List Kind) → ((w : List Kind) → first ts ≡ first w → q w ≡ answer w) → Again q answer ts ts
  here q answer ts h = record { front = []; split = refl; again = h }

  pub local_pure : {A : Type 0} (a : A) → Local (pure a) (pure a)
  local_pure a ts = here (pure a) (λ w. Ok (a, w)) ts (λ w e. refl)

  pub local_refuse : {A : Type 0} → Local {A = A} refuse refuse
  local_refuse ts wider = here refuse (λ w. Err (NoTree, w)) ts (λ w e. refl)

  pub then_again : {A B : Type 0} (p : Parser A) (f : A → Parser B) (a : A) (answer : List Kind → Outcome B) (ts mid rest : List Kind) → Again p (λ w. Ok (a, w)) ts mid → Again (f a) answer mid rest
      → Again (p >>= f) answer ts rest
  then_again p f a answer ts mid rest one two = record {
    front = one.front ++ two.front;
    split = one.split ∙ ap (λ us. one.front ++ us) two.split ∙ sym (append_assoc one.front two.front rest);
    again = λ w e.
        ap (p >>= f) (append_assoc one.front two.front w)
        ∙ ap (λ o. and_then o f) (one.again (two.front ++ w) (ap first two.split ∙ first_front two.front rest w e))
        ∙ two.again w e;
  }

  kept_after : {A B : Type 0} (q : Parser A) (g : A → Parser B) (a : A) (ts mid : List Kind) (o : Outcome B) → Again q (λ w. Ok (a, w)) ts mid → Kept (g a) mid o → Kept (q >>= g) ts o
  kept_after q g a ts mid (Ok r) one two = then_again q g a (λ w. Ok (r.0, w)) ts mid r.1 one two
  kept_after q g a ts mid (Err stop) one two = λ wider. then_again q g a (λ w. Err (stop.0, w)) ts mid stop.1 one (two wider)

  pub kept_bind : {A B : Type 0} (q : Parser A) (f g : A → Parser B) (ts : List Kind) (o : Outcome A) → Kept q ts o → ((r : A × List Kind) → o ≡ Ok r → Kept (g r.0) r.1 (f r.0 r.1)) → Kept (q >>= g) ts (and_then o f)
  kept_bind q f g ts (Err stop) k next = λ wider. let a = k wider in record { front = a.front; split = a.split; again = λ w e. ap (λ o. and_then o g) (a.again w e) }
  kept_bind q f g ts (Ok r) k next = kept_after q g r.0 ts r.1 (f r.0 r.1) k (next r refl)

  pub local_bind : {A B : Type 0} (p q : Parser A) (f g : A → Parser B) → Local p q → ((a : A) → Local (f a) (g a)) → Local (p >>= f) (q >>= g)
  local_bind p q f g one next ts = kept_bind q f g ts (p ts) (one ts) (λ r e. next r.0 r.1)

  -- ---- the next token

  pub along : {A : Type 0} (q q' : Parser A) (k : Kind) (ts : List Kind) (o : Outcome A) → ((us : List Kind) → q' (k ∷ us) ≡ q us) → Kept q ts o → Kept q' (k ∷ ts) o
  along q q' k ts (Ok r) same a = record { front = k ∷ a.front; split = ap (λ ts. k ∷ ts) a.split; again = λ w e. same (a.front ++ w) ∙ a.again w e }
  along q q' k ts (Err stop) same h = λ wider. let a = h wider in record { front = k ∷ a.front; split = ap (λ ts. k ∷ ts) a.split; again = λ w e. same (a.front ++ w) ∙ a.again w e }

  pub local_skip : {A : Type 0} (p q : Parser A) → Local p q → Local (skipping p) (skipping q)
  local_skip p q one [] = λ wider. here (skipping q) (λ w. Err (NoTree, w)) [] (λ w e. let n = no_first w e in rw n refl)
  local_skip p q one (k ∷ ts) = along q (skipping q) k ts (p ts) (λ us. refl) (one ts)

  pub local_next : {A : Type 0} (f g : Kind → Parser A) → ((k : Kind) (ts : List Kind) → Kept (next_token g) (k ∷ ts) (f k ts)) → Local (next_token f) (next_token g)
  local_next f g one [] = λ wider. here (next_token g) (λ w. Err (NoTree, w)) [] (λ w e. let n = no_first w e in rw n refl)
  local_next f g one (k ∷ ts) = one k ts

  -- the same fault at a token, by that token alone
  pub at_token : {A : Type 0} (q : Parser A) (fault : Fault) (k : Kind) (ts : List Kind) → ((us : List Kind) → q (k ∷ us) ≡ Err (fault, k ∷ us)) → Again q (λ w. Err (fault, w)) (k ∷ ts) (k ∷ ts)
  at_token q fault k ts h = here q (λ w. Err (fault, w)) (k ∷ ts) (λ w e. let v = one_first k w e in ap q v.1 ∙ h v.0 ∙ ap (λ (w : List Kind). Err (fault, w)) (sym v.1))

  one_kept : {A : Type 0} (read : Parser A) (spelled : A → Kind) → OneToken read spelled → (ts : List Kind) (o : Outcome A) → read ts ≡ o → Kept read ts o
  one_kept read spelled one ts (Ok r) e = record { front = spelled r.0 ∷ []; split = one.took ts r e; again = λ w f. one.takes r.0 w }
  one_kept read spelled one ts (Err stop) e = λ wider.
      let same = one.stops ts stop e in
      subst (λ (stop : Fault × List Kind). Again read (λ w. Err (stop.0, w)) ts stop.1) same
      (here read (λ w. Err (NoTree, w)) ts (λ w f. one.alone ts w (e ∙ ap Err (sym same)) f))

  pub local_one : {A : Type 0} (read : Parser A) (spelled : A → Kind) → OneToken read spelled → Local read read
  local_one read spelled one ts = one_kept read spelled one ts (read ts) refl

  pub local_expect : (s : Symbol) → Local (expect s) (expect s)
  local_expect s = local_one (expect s) (λ u. _) (symbol_token s)

  pub local_identifier : Local identifier identifier
  local_identifier = local_one identifier _ identifier_token

  -- ---- by what comes first

  abbrev pub Looks : {X : Type 0} → (List Kind → X) → Type 0
  Looks h = (ts us : List Kind) → first ts ≡ first us → h ts ≡ h us

  pub on_kept : {A X : Type 0} (h : List Kind → X) (g : X → Parser A) → Looks h → (ts : List Kind) (o : Outcome A) → Kept (g (h ts)) ts o → Kept (λ us. g (h us) us) ts o
  on_kept h g looks ts (Ok r) a = record {
    front = a.front;
    split = a.split;
    again = λ w e. ap (λ c. g c (a.front ++ w)) (looks (a.front ++ w) ts (sym (ap first a.split ∙ first_front a.front r.1 w e))) ∙ a.again w e;
  }
  on_kept h g looks ts (Err stop) k = λ wider.
      let a = k wider in
      record {
        front = a.front;
        split = a.split;
        again = λ w e. ap (λ c. g c (a.front ++ w)) (looks (a.front ++ w) ts (sym (ap first a.split ∙ first_front a.front stop.1 w e))) ∙ a.again w e;
      }

  pub local_on : {A X : Type 0} (h : List Kind → X) (f g : X → Parser A) → Looks h → ((c : X) → Local (f c) (g c)) → Local (λ ts. f (h ts) ts) (λ ts. g (h ts) ts)
  local_on h f g looks one ts = on_kept h g looks ts (f (h ts) ts) (one (h ts) ts)

  pub cond_local : {A : Type 0} (p p' q q' : Parser A) → Local p p' → Local q q' → (b : Bool) → Local (λ ts. cond b (p ts) (q ts)) (λ ts. cond b (p' ts) (q' ts))
  cond_local p p' q q' one two true ts = one ts
  cond_local p p' q q' one two false ts = two ts

  pub local_if : {A : Type 0} (h : List Kind → Bool) (p p' q q' : Parser A) → Looks h → Local p p' → Local q q' → Local (λ ts. cond (h ts) (p ts) (q ts)) (λ ts. cond (h ts) (p' ts) (q' ts))
  local_if h p p' q q' looks one two = local_on h (λ b ts. cond b (p ts) (q ts)) (λ b ts. cond b (p' ts) (q' ts)) looks (cond_local p p' q q' one two)

  pub looks_at : (s : Symbol) → Looks (is_at s)
  looks_at s [] [] e = refl
  looks_at s [] (k ∷ us) e = absurd (cc)
  looks_at s (k ∷ ts) [] e = absurd (cc)
  looks_at s (k ∷ ts) (j ∷ us) e = let same : k ≡ j = cc in ap (is_symbol s) same

  pub looks_first : {X : Type 0} (h : Option Kind → X) → Looks (λ ts. h (first ts))
  looks_first h ts us e = ap h e

  -- ---- levels

  pub by_room : {A : Type 0} (height : ℕ) (q : Parser A) (ts : List Kind) (o : Outcome A) (b : Bool) → ltb room height ≡ b → (b ≡ false → Kept q ts o) → Kept (over height other q) ts (cond b (Err (TooDeep, ts)) o)
  by_room height q ts o true e one = λ wider. here (over height other q) (λ w. Err (TooDeep, w)) ts (λ w f. let same : other ≡ room = wider in rw (same, e) refl)
  by_room height q ts o false e one = with_room o (one refl) where
    enough : ltb other height ≡ false
    enough = le-ltb other height (let h = ltb-false room height e in omega arith)

    with_room : (o : Outcome _) → Kept q ts o → Kept (over height other q) ts o
    with_room (Ok r) a = record { front = a.front; split = a.split; again = λ w f. rw enough (a.again w f) }
    with_room (Err stop) k = λ wider. let a = k wider in record { front = a.front; split = a.split; again = λ w f. rw enough (a.again w f) }

  pub local_over : {A : Type 0} (height : ℕ) (p q : Parser A) → Local p q → Local (over height room p) (over height other q)
  local_over height p q one ts = by_room height q ts (p ts) (ltb room height) refl (λ e. one ts)

  -- ---- one of two, and the same reader

  pub kept_same : {A : Type 0} (q q' : Parser A) → ((us : List Kind) → q us ≡ q' us) → (ts : List Kind) (o : Outcome A) → Kept q ts o → Kept q' ts o
  kept_same q q' same ts (Ok r) a = record { front = a.front; split = a.split; again = λ w e. sym (same (a.front ++ w)) ∙ a.again w e }
  kept_same q q' same ts (Err stop) k = λ wider. let a = k wider in record { front = a.front; split = a.split; again = λ w e. sym (same (a.front ++ w)) ∙ a.again w e }

  pub kept_cond : {A : Type 0} (b : Bool) (q q' : Parser A) (ts : List Kind) (o o' : Outcome A) → (b ≡ true → Kept q ts o) → (b ≡ false → Kept q' ts o') → Kept (λ us. cond b (q us) (q' us)) ts (cond b o o')
  kept_cond true q q' ts o o' one two = one refl
  kept_cond false q q' ts o o' one two = two refl

  pub kept_if : {A : Type 0} (h : List Kind → Bool) (q q' : Parser A) (ts : List Kind) (o o' : Outcome A) → Looks h → (h ts ≡ true → Kept q ts o) → (h ts ≡ false → Kept q' ts o')
      → Kept (λ us. cond (h us) (q us) (q' us)) ts (cond (h ts) o o')
  kept_if h q q' ts o o' looks one two = on_kept h (λ b us. cond b (q us) (q' us)) looks ts (cond (h ts) o o') (kept_cond (h ts) q q' ts o o' one two)

  -- ---- items as long as one begins

  module _ {A : Type 0} (starts : Option Kind → Bool) (item item' : Parser A) (silent : starts None ≡ false) (shortens : Shortens item) (shortens' : Shortens item') (one : Local item item') where
    abbrev turn_of : Parser (List A)
    turn_of = item' >>= (λ a. many starts item' >>= (λ all. pure (a ∷ all)))

    abbrev choice_of : Parser (List A)
    choice_of us = cond (starts (first us)) (turn_of us) (Ok ([], us))

    turns_same : (us : List Kind) → choice_of us ≡ many starts item' us
    turns_same us =
        elim (cases_Bool (starts (first us))) [
          | inl t ↦ rw t (sym (many_turn starts item' silent shortens' us t))
          | inr f ↦ rw f (sym (many_over starts item' us f))
        ]

    from_kept : (turns : ℕ) (ts : List Kind) → length ts ≤ turns → Kept (many starts item') ts (many_from starts item turns ts)
    from_kept zero [] l = here (many starts item') (λ w. Ok ([], w)) [] (λ w e. many_over starts item' w (ap starts (sym e) ∙ silent))
    from_kept zero (k ∷ ts) l = absurd (omega arith)
    from_kept (suc turns) ts l =
        kept_same choice_of (many starts item') turns_same ts (many_from starts item (suc turns) ts)
        (kept_if (λ us. starts (first us)) turn_of (λ us. Ok ([], us)) ts (and_then (item ts) (λ a rest. and_then (many_from starts item turns rest) (λ all rest. Ok (a ∷ all, rest)))) (Ok ([], ts)) (looks_first starts)
        (λ t. kept_bind item' (λ a rest. and_then (many_from starts item turns rest) (λ all rest. Ok (a ∷ all, rest))) (λ a. many starts item' >>= (λ all. pure (a ∷ all))) ts (item ts) (one ts)
        (λ r e.
        let s = shortens ts r.0 r.1 e in
        kept_bind (many starts item') (λ all. pure (r.0 ∷ all)) (λ all. pure (r.0 ∷ all)) r.1 (many_from starts item turns r.1) (from_kept turns r.1 (omega arith)) (λ q f. local_pure (r.0 ∷ q.0) q.1)))
        (λ f. here (λ us. Ok ([], us)) (λ w. Ok ([], w)) ts (λ w e. refl)))

    pub local_many : Local (many starts item) (many starts item')
    unfolding many
    local_many ts = from_kept (length ts) ts (omega arith)

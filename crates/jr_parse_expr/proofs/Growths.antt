-- What stands before a fault begins a tree.
use Rattle.std.proofs.Common.{◌≡◌, ℕ, zero, suc, ◌≤◌, Bool, true, false, not, ◌||◌, List, [], ◌∷◌, ◌++◌, length, Option, None, Ok, Err, refl, sym, ap, ◌∙◌, inl, inr, append_assoc, arith}
use Rattle.std.proofs.lemmas.Bool.{and_parts}
use Rattle.jr_base.specs.declared.kind.Kind.{Kind}
use Rattle.jr_base.specs.declared.kind.Kind.TheVariants as kind
use Rattle.jr_base.specs.declared.kind.Symbol.TheVariants as y
use Rattle.jr_base.specs.declared.kind.Keyword.TheVariants as k
use Rattle.jr_tree.specs.Levels.{is_literal, is_least_kind}
use Rattle.jr_tree.specs.Mirror.Exprs as x
use Rattle.jr_tree.specs.Tokens.{expr_tokens}
use Rattle.jr_parse_laws.specs.declared.fault.Fault.{Fault}
use Rattle.jr_parse_laws.specs.declared.fault.Fault.TheVariants.{NoTree, TooDeep}
use Rattle.jr_parse_laws.specs.Parsers.{Parser, first, many_from, many}
use Rattle.jr_parse_laws.specs.Viable.{Begun, Deeper}
use Rattle.jr_parse_laws.proofs.Outcomes.{chosen, ok_err, Before, After, stops}
use Rattle.jr_parse_laws.proofs.Stops.{here, next, Leading, leading_nothing, leading_kind, deeper_by, begun_by}
use Rattle.jr_parse_laws.proofs.Lists.{Shortens}
use Rattle.jr_parse_starts.specs.Starts.{begins_primary, begins_operand, is_plain_literal}
use Rattle.jr_parse_expr.specs.Names.{name_of}
use Rattle.jr_parse_expr.specs.Writing.{write_expr}
use Rattle.jr_parse_expr.specs.Follow.{IsExpr}
use Rattle.jr_parse_expr.proofs.Written.{written}

-- what stands before the fault begins a tree, and where a tree goes on that is too deep, a deeper one goes on
pub record Growing {A : Type 0} (Is : ℕ → A → Type 0) (write : A → List Kind → List Kind) (room : ℕ) (ts : List Kind) (stop : Fault × List Kind) : Type 0 where
  pub viable : Begun (Is room) write stop.1 ts
  pub deeper : Deeper Is write stop.0 stop.1 ts

-- ---- what is written in front

pub leading_tokens : (into : List Kind → List Kind) (tokens : List Kind) → ((z : List Kind) → into z ≡ tokens ++ z) → Leading into
leading_tokens into tokens h = record {
  alike = λ {rest} {w} a. record {
    front = tokens ++ a.front;
    one = ap into a.one ∙ h (a.front ++ rest) ∙ sym (append_assoc tokens a.front rest);
    two = ap into a.two ∙ h (a.front ++ w) ∙ sym (append_assoc tokens a.front w);
  };
}

pub leading_then : {f g : List Kind → List Kind} → Leading f → Leading g → Leading (λ z. f (g z))
leading_then f g = record { alike = λ a. f.alike (g.alike a) }

pub leading_expr : (e : x.Expr) → Leading (write_expr e)
leading_expr e = leading_tokens (write_expr e) (expr_tokens e) (written e)

pub leading_one : (token : Kind) → Leading (λ z. token ∷ z)
leading_one token = leading_kind token leading_nothing

-- ---- from a part to the whole

module _ {A B : Type 0} {Is : ℕ → A → Type 0} {write : A → List Kind → List Kind} {Is' : ℕ → B → Type 0} {write' : B → List Kind → List Kind} where
  pub grows : (room room' : ℕ) (ts : List Kind) (stop : Fault × List Kind) (into : List Kind → List Kind) → Leading into
      → (whole : A → B) (after : List Kind → List Kind) → ((a : A) (z : List Kind) → write' (whole a) z ≡ into (write a (after z)))
      → ((r : ℕ) (a : A) → Is r a → (s : ℕ) × Is' s (whole a)) → ((a : A) → Is room a → Is' room' (whole a))
      → Growing Is write room ts stop → Growing Is' write' room' (into ts) stop
  grows room room' ts stop into leading whole after spelled deep is g = record {
    viable = begun_by stop.1 ts into leading whole after spelled is g.viable;
    deeper = deeper_by stop.0 stop.1 (λ r q b. let d = deep r b.tree b.is in (
      d.0,
      record {
        tree = whole b.tree;
        is = d.1;
        more = λ z. b.more (after z);
        alike = λ z. let a = leading.alike (b.alike (after z)) in record { front = a.front; one = a.one; two = spelled b.tree z ∙ a.two };
      },
    )) g.deeper;
  }

module _ {A : Type 0} {Is : ℕ → A → Type 0} {write : A → List Kind → List Kind} where
  -- a token is missing
  pub none_grows : (room : ℕ) (rest : List Kind) (into : List Kind → List Kind) → Leading into
      → (tree : A) (after : List Kind → List Kind) → ((z : List Kind) → write tree z ≡ into (after z)) → Is room tree → Growing Is write room (into rest) (NoTree, rest)
  none_grows room rest into leading tree after spelled is = record {
    viable = record { tree = tree; is = is; more = after; alike = λ z. let a = leading.alike (here rest (after z)) in record { front = a.front; one = a.one; two = spelled z ∙ a.two } };
    deeper = tt;
  }

  -- a level is missing
  pub deep_grows : (room : ℕ) (token : Kind) (rest : List Kind) (into : List Kind → List Kind) → Leading into
      → (tree : A) (after : List Kind → List Kind) → ((z : List Kind) → write tree z ≡ into (after z)) → Is room tree
      → (deep : ℕ) (tall : A) (past : List Kind → List Kind) → ((z : List Kind) → write tall z ≡ into (token ∷ past z)) → Is deep tall
      → Growing Is write room (into (token ∷ rest)) (TooDeep, token ∷ rest)
  deep_grows room token rest into leading tree after spelled is deep tall past spelled_tall is_tall = record {
    viable = record { tree = tree; is = is; more = after; alike = λ z. let a = leading.alike (here (token ∷ rest) (after z)) in record { front = a.front; one = a.one; two = spelled z ∙ a.two } };
    deeper = (deep, record { tree = tall; is = is_tall; more = past; alike = λ z. let a = leading.alike (next token (here rest (past z))) in record { front = a.front; one = a.one; two = spelled_tall z ∙ a.two } });
  }

-- ---- samples

abbrev pub sample : x.Expr
sample = x.This None

pub sample_is : (room least : ℕ) → 1 ≤ room → least ≤ 14 → IsExpr room least sample
sample_is room least some l = record { shaped = tt; fits = (l, refl); low = some }

-- an expression that begins with the token
pub record Starter (token : Kind) : Type 0 where
  pub tree : x.Expr
  pub levels : ℕ
  pub is : IsExpr levels 12 tree
  pub more : List Kind → List Kind
  pub spelled : (z : List Kind) → write_expr tree z ≡ token ∷ more z

literal_starter : (token : Kind) → is_plain_literal token ≡ true → Starter token
literal_starter token h =
    let p = and_parts (is_literal token) (not (is_least_kind token)) h in
    record { tree = x.Lit token; levels = 1; is = record { shaped = p.0; fits = (omega arith, p.1); low = omega arith }; more = λ z. z; spelled = λ z. refl }

pub or_second : (b c : Bool) → (b || c) ≡ true → b ≡ false → c ≡ true
or_second true c h g = absurd (cc)
or_second false c h g = h

pub starter : (token : Kind) → begins_operand token ≡ true → Starter token
starter (kind.Ident name) h =
    record { tree = x.NameExpr (name_of (name ∷ [])); levels = 1; is = record { shaped = refl; fits = (omega arith, refl); low = omega arith }; more = λ z. z; spelled = λ z. refl }
starter (kind.Sym y.OpenParen) h = record {
  tree = x.Paren sample;
  levels = 2;
  is = record { shaped = ((omega arith, refl), tt); fits = (omega arith, refl); low = omega arith };
  more = λ z. kind.Word k.This ∷ kind.Sym y.CloseParen ∷ z;
  spelled = λ z. refl;
}
starter (kind.Sym y.Not) h = record { tree = x.Unary y.Not sample; levels = 2; is = record { shaped = (refl, omega arith, refl, tt); fits = (omega arith, refl); low = omega arith }; more = λ z. kind.Word k.This ∷ z; spelled = λ z. refl }
starter (kind.Sym y.Tilde) h = record { tree = x.Unary y.Tilde sample; levels = 2; is = record { shaped = (refl, omega arith, refl, tt); fits = (omega arith, refl); low = omega arith }; more = λ z. kind.Word k.This ∷ z; spelled = λ z. refl }
starter (kind.Sym y.Plus) h = record { tree = x.Unary y.Plus sample; levels = 2; is = record { shaped = (refl, omega arith, refl, tt); fits = (omega arith, refl); low = omega arith }; more = λ z. kind.Word k.This ∷ z; spelled = λ z. refl }
starter (kind.Sym y.Minus) h = record { tree = x.Unary y.Minus sample; levels = 2; is = record { shaped = (refl, omega arith, refl, tt); fits = (omega arith, refl); low = omega arith }; more = λ z. kind.Word k.This ∷ z; spelled = λ z. refl }
starter (kind.Sym y.PlusPlus) h = record { tree = x.PreStep y.PlusPlus sample; levels = 2; is = record { shaped = (refl, (omega arith, refl), tt); fits = (omega arith, refl); low = omega arith }; more = λ z. kind.Word k.This ∷ z; spelled = λ z. refl }
starter (kind.Sym y.MinusMinus) h = record { tree = x.PreStep y.MinusMinus sample; levels = 2; is = record { shaped = (refl, (omega arith, refl), tt); fits = (omega arith, refl); low = omega arith }; more = λ z. kind.Word k.This ∷ z; spelled = λ z. refl }
starter (kind.Sym s) h = absurd (cc)
starter (kind.Word k.This) h = record { tree = sample; levels = 1; is = sample_is 1 12 (omega arith) (omega arith); more = λ z. z; spelled = λ z. refl }
starter (kind.Word k.Super) h = record {
  tree = x.SuperSelect [];
  levels = 1;
  is = record { shaped = tt; fits = (omega arith, refl); low = omega arith };
  more = λ z. kind.Sym y.Dot ∷ kind.Ident [] ∷ z;
  spelled = λ z. refl;
}
starter (kind.Word k.New) h = record {
  tree = x.New (name_of ([] ∷ [])) x.no_exprs;
  levels = 1;
  is = record { shaped = (refl, tt); fits = (omega arith, refl); low = omega arith };
  more = λ z. kind.Ident [] ∷ kind.Sym y.OpenParen ∷ kind.Sym y.CloseParen ∷ z;
  spelled = λ z. refl;
}
starter (kind.Word w) h = literal_starter (kind.Word w) (or_second (begins_primary w) (is_plain_literal (kind.Word w)) h refl)
starter token h = literal_starter token h

-- ---- where a list stops

module _ {A : Type 0} (starts : Option Kind → Bool) (item : Parser A) (shortens : Shortens item)
    (Is : A → Type 0) (write : A → List Kind → List Kind) (item_sound : (ts : List Kind) (r : A × List Kind) → item ts ≡ Ok r → Is r.0 × (ts ≡ write r.0 r.1)) where
  abbrev pub AllAre : List A → Type 0
  AllAre [] = Unit {0}
  AllAre (a ∷ all) = Is a × AllAre all

  abbrev pub write_all : List A → List Kind → List Kind
  write_all [] rest = rest
  write_all (a ∷ all) rest = write a (write_all all rest)

  -- the items before the one that stops
  pub record Stopped (ts : List Kind) (stop : Fault × List Kind) : Type 0 where
    pub all : List A
    pub are : AllAre all
    pub rest : List Kind
    pub split : ts ≡ write_all all rest
    pub begun : starts (first rest) ≡ true
    pub stopped : item rest ≡ Err stop

  from_stopped : (turns : ℕ) (ts : List Kind) (stop : Fault × List Kind) → many_from starts item turns ts ≡ Err stop → Stopped ts stop
  from_stopped zero ts stop h = absurd (ok_err h)
  from_stopped (suc turns) ts stop h =
      elim (chosen (starts (first ts)) _ _ _ h) [
        | inl t ↦
            (elim (stops (item ts) _ stop t.1) [
              | Before e ↦ record { all = []; are = tt; rest = ts; split = refl; begun = t.0; stopped = e }
              | After a rest e d ↦
                  (let one = item_sound ts (a, rest) e in
                  elim (stops (many_from starts item turns rest) _ stop d) [
                    | Before i ↦
                        (let more = from_stopped turns rest stop i in
                        record { all = a ∷ more.all; are = (one.0, more.are); rest = more.rest; split = one.1 ∙ ap (write a) more.split; begun = more.begun; stopped = more.stopped })
                    | After all left i d ↦ absurd (ok_err d)
                  ])
            ])
        | inr t ↦ absurd (ok_err t.1)
      ]

  pub many_stopped : (ts : List Kind) (stop : Fault × List Kind) → many starts item ts ≡ Err stop → Stopped ts stop
  unfolding many
  many_stopped ts stop h = from_stopped (length ts) ts stop h

-- What the loops over the identifiers of an import keep.
use Rattle.std.proofs.Common.{◌≡◌, ℕ, zero, suc, ◌≤◌, true, false, List, [], ◌∷◌, ◌++◌, drop, length, Ok, refl, sym, ap, ◌∙◌, subst, arith}
use Rattle.jr_base.specs.declared.text.Text.{Text}
use Rattle.jr_base.specs.declared.kind.Kind.{Kind}
use Rattle.jr_base.specs.declared.kind.Kind.TheVariants as kind
use Rattle.jr_base.specs.declared.kind.Symbol.TheVariants as y
use Rattle.jr_tree.specs.declared.tree.Import.{Import}
use Rattle.jr_parse_laws.specs.declared.fault.Fault.{Fault}
use Rattle.jr_parse_laws.specs.declared.fault.Fault.TheVariants.{NoTree, TooDeep, OutOfMemory}
use Rattle.jr_parse_laws.specs.Parsers.{Outcome, is_at, identifier, Fails}
use Rattle.jr_parse_laws.proofs.Outcomes.{ok_is, ok_err, err_ok, fails_on}
use Rattle.jr_parse_expr.specs.Names.{name_of}
use Rattle.jr_parse_defs.specs.Decls.{imported_from, imported_behind, static_from}
use Rattle.jr_parse.specs.Importing.{single, on_demand, imported, static_end, static_imported}

length_of : (token : Kind) (ts : List Kind) → length (token ∷ ts) ≡ suc (length ts)
length_of token ts = omega arith

-- ---- imports that are not static

more_turns : (turns : ℕ) (before : List Text) (last : Text) (ts : List Kind) → length ts ≤ turns → imported_from (suc turns) before last ts ≡ imported_from turns before last ts
more_turns zero before last [] h = refl
more_turns zero before last (token ∷ ts) h = absurd (omega arith)
more_turns (suc turns) before last (kind.Sym y.Dot ∷ kind.Ident name ∷ ts) h = more_turns turns (before ++ last ∷ []) name ts (omega arith)
more_turns (suc turns) before last (kind.Sym y.Dot ∷ kind.Sym y.Star ∷ ts) h = refl
more_turns (suc turns) before last (kind.Sym y.Dot ∷ ts) h = refl
more_turns (suc turns) before last (kind.Sym y.Semicolon ∷ ts) h = refl
more_turns (suc turns) before last ts h = refl

at_dot : (before : List Text) (last : Text) (ts : List Kind) → imported before last (kind.Sym y.Dot ∷ ts) ≡ imported_behind (length ts) before last ts
at_dot before last ts = ap (λ n. imported_from n before last (kind.Sym y.Dot ∷ ts)) (length_of (kind.Sym y.Dot) ts)

at_name : (before : List Text) (last : Text) (name : Text) (ts : List Kind) → imported before last (kind.Sym y.Dot ∷ kind.Ident name ∷ ts) ≡ imported (before ++ last ∷ []) name ts
at_name before last name ts =
    at_dot before last (kind.Ident name ∷ ts) ∙ ap (λ n. imported_from n (before ++ last ∷ []) name ts) (length_of (kind.Ident name) ts) ∙ more_turns (length ts) (before ++ last ∷ []) name ts (omega arith)

pub imported_more : (before : List Text) (last : Text) (ts : List Kind) (name : Text) (rest : List Kind) → is_at y.Dot ts ≡ true → identifier (drop 1 ts) ≡ Ok (name, rest)
    → imported before last ts ≡ imported (before ++ last ∷ []) name rest
imported_more before last [] name rest h e = absurd (cc)
imported_more before last (kind.Sym y.Dot ∷ []) name rest h e = absurd (err_ok e)
imported_more before last (kind.Sym y.Dot ∷ kind.Ident other ∷ ts) name rest h e =
    at_name before last other ts ∙ ap (λ (p : Text × List Kind). imported (before ++ last ∷ []) p.0 p.1) (ok_is e)
imported_more before last (kind.Sym y.Dot ∷ token ∷ ts) name rest h e = absurd (err_ok e)
imported_more before last (token ∷ ts) name rest h e = absurd (cc)

pub imported_star : (before : List Text) (last : Text) (ts : List Kind) → is_at y.Dot ts ≡ true → is_at y.Star (drop 1 ts) ≡ true
    → imported before last ts ≡ on_demand (name_of (before ++ last ∷ [])) (drop 1 (drop 1 ts))
imported_star before last [] h g = absurd (cc)
imported_star before last (kind.Sym y.Dot ∷ []) h g = absurd (cc)
imported_star before last (kind.Sym y.Dot ∷ kind.Sym y.Star ∷ ts) h g = at_dot before last (kind.Sym y.Star ∷ ts)
imported_star before last (kind.Sym y.Dot ∷ token ∷ ts) h g = absurd (cc)
imported_star before last (token ∷ ts) h g = absurd (cc)

behind_fails : (before : List Text) (last : Text) (turns : ℕ) (ts : List Kind) (f : Fault) (new : List Kind) → is_at y.Star ts ≡ false → Fails (identifier ts) f new → Fails (imported_behind turns before last ts) f new
behind_fails before last turns ts OutOfMemory new g e = tt
behind_fails before last turns [] NoTree new g e = cc
behind_fails before last turns [] TooDeep new g e = cc
behind_fails before last turns (kind.Ident other ∷ ts) NoTree new g e = absurd (ok_err e)
behind_fails before last turns (kind.Ident other ∷ ts) TooDeep new g e = absurd (ok_err e)
behind_fails before last turns (kind.Sym y.Star ∷ ts) f new g e = absurd (cc)
behind_fails before last turns (token ∷ ts) NoTree new g e = cc
behind_fails before last turns (token ∷ ts) TooDeep new g e = cc

pub imported_fails : (before : List Text) (last : Text) (ts : List Kind) (f : Fault) (new : List Kind) → is_at y.Dot ts ≡ true → is_at y.Star (drop 1 ts) ≡ false → Fails (identifier (drop 1 ts)) f new
    → Fails (imported before last ts) f new
imported_fails before last [] f new h g e = absurd (cc)
imported_fails before last (kind.Sym y.Dot ∷ ts) f new h g e = subst (λ (o : Outcome Import). Fails o f new) (sym (at_dot before last ts)) (behind_fails before last (length ts) ts f new g e)
imported_fails before last (token ∷ ts) f new h g e = absurd (cc)

done_by : (turns : ℕ) (before : List Text) (last : Text) (token : Kind) (ts : List Kind) → is_at y.Dot (token ∷ ts) ≡ false → imported_from (suc turns) before last (token ∷ ts) ≡ single (name_of (before ++ last ∷ [])) (token ∷ ts)
done_by turns before last (kind.Sym y.Dot) ts h = absurd (cc)
done_by turns before last (kind.Sym y.Semicolon) ts h = refl
done_by turns before last (kind.Sym s) ts h = refl
done_by turns before last token ts h = refl

pub imported_done : (before : List Text) (last : Text) (ts : List Kind) → is_at y.Dot ts ≡ false → imported before last ts ≡ single (name_of (before ++ last ∷ [])) ts
imported_done before last [] h = refl
imported_done before last (token ∷ ts) h = ap (λ n. imported_from n before last (token ∷ ts)) (length_of token ts) ∙ done_by (length ts) before last token ts h

-- ---- static imports

static_over : (turns : ℕ) (before : List Text) (last : Text) (token : Kind) (ts : List Kind) → is_at y.Dot (token ∷ ts) ≡ false → static_from (suc turns) before last (token ∷ ts) ≡ static_end before last (token ∷ ts)
static_over turns [] last token ts h = rw h refl
static_over turns (part ∷ before) last token ts h = rw h refl

static_at : (turns : ℕ) (before : List Text) (last : Text) (name : Text) (ts : List Kind) → static_from (suc turns) before last (kind.Sym y.Dot ∷ kind.Ident name ∷ ts) ≡ static_from turns (before ++ last ∷ []) name ts
static_at turns before last name ts = refl

more_static : (turns : ℕ) (before : List Text) (last : Text) (ts : List Kind) → length ts ≤ turns → static_from (suc turns) before last ts ≡ static_from turns before last ts
more_static zero [] last [] h = refl
more_static zero (part ∷ before) last [] h = refl
more_static zero before last (token ∷ ts) h = absurd (omega arith)
more_static (suc turns) [] last [] h = refl
more_static (suc turns) (part ∷ before) last [] h = refl
more_static (suc turns) before last (kind.Sym y.Dot ∷ []) h = refl
more_static (suc turns) before last (kind.Sym y.Dot ∷ kind.Ident name ∷ ts) h = more_static turns (before ++ last ∷ []) name ts (omega arith)
more_static (suc turns) before last (kind.Sym y.Dot ∷ token ∷ ts) h = refl
more_static (suc turns) before last (token ∷ ts) h =
    let over : is_at y.Dot (token ∷ ts) ≡ false = refl in
    static_over (suc turns) before last token ts over ∙ sym (static_over turns before last token ts over)

pub static_more : (before : List Text) (last : Text) (ts : List Kind) (name : Text) (rest : List Kind) → is_at y.Dot ts ≡ true → identifier (drop 1 ts) ≡ Ok (name, rest)
    → static_imported before last ts ≡ static_imported (before ++ last ∷ []) name rest
static_more before last [] name rest h e = absurd (cc)
static_more before last (kind.Sym y.Dot ∷ []) name rest h e = absurd (err_ok e)
static_more before last (kind.Sym y.Dot ∷ kind.Ident other ∷ ts) name rest h e =
    ap (λ n. static_from n before last (kind.Sym y.Dot ∷ kind.Ident other ∷ ts)) (length_of (kind.Sym y.Dot) (kind.Ident other ∷ ts))
    ∙ ap (λ n. static_from n (before ++ last ∷ []) other ts) (length_of (kind.Ident other) ts)
    ∙ more_static (length ts) (before ++ last ∷ []) other ts (omega arith) ∙ ap (λ (p : Text × List Kind). static_imported (before ++ last ∷ []) p.0 p.1) (ok_is e)
static_more before last (kind.Sym y.Dot ∷ token ∷ ts) name rest h e = absurd (err_ok e)
static_more before last (token ∷ ts) name rest h e = absurd (cc)

pub static_fails : (before : List Text) (last : Text) (ts : List Kind) (f : Fault) (new : List Kind) → is_at y.Dot ts ≡ true → Fails (identifier (drop 1 ts)) f new → Fails (static_imported before last ts) f new
static_fails before last [] f new h e = absurd (cc)
static_fails before last (kind.Sym y.Dot ∷ ts) f new h e =
    subst (λ (o : Outcome Import). Fails o f new) (sym (ap (λ n. static_from n before last (kind.Sym y.Dot ∷ ts)) (length_of (kind.Sym y.Dot) ts)))
    (fails_on (identifier ts) (λ n. static_from (length ts) (before ++ last ∷ []) n) f new e)
static_fails before last (token ∷ ts) f new h e = absurd (cc)

pub static_done : (before : List Text) (last : Text) (ts : List Kind) → is_at y.Dot ts ≡ false → static_imported before last ts ≡ static_end before last ts
static_done [] last [] h = refl
static_done (part ∷ before) last [] h = refl
static_done before last (token ∷ ts) h = ap (λ n. static_from n before last (token ∷ ts)) (length_of token ts) ∙ static_over (length ts) before last token ts h

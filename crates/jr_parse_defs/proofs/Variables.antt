-- Reading declarations of variables and parameters is exact in both directions.
use Rattle.std.proofs.Common.{◌≡◌, ℕ, suc, ◌≤◌, Bool, true, false, not, List, [], ◌∷◌, length, Option, Some, None, Ok, refl, sym, ap, ◌∙◌, subst, inl, inr, arith}
use Rattle.std.proofs.lemmas.Bool.{le-ltb}
use Rattle.std.specs.Prelude.{IfSome}
use Rattle.std.specs.List.{AllByRecursion}
use Rattle.std.specs.Option.{option_map_or}
use Rattle.jr_base.specs.declared.text.Text.{Text}
use Rattle.jr_base.specs.declared.kind.Kind.{Kind}
use Rattle.jr_base.specs.declared.kind.Kind.TheVariants as kind
use Rattle.jr_base.specs.declared.kind.Symbol.TheVariants as y
use Rattle.jr_base.specs.declared.kind.Keyword.TheVariants as k
use Rattle.jr_tree.specs.declared.tree.Param.{Param}
use Rattle.jr_tree.specs.declared.tree.Base.{Base}
use Rattle.jr_tree.specs.declared.tree.Base.TheVariants as base
use Rattle.jr_tree.specs.declared.tree.TypeUse.{TypeUse}
use Rattle.jr_tree.specs.declared.tree.Primitive.TheVariants as primitive
use Rattle.jr_tree.specs.Shape.{is_empty, IsBase, IsTypeUse, IsShapedInit, IsShapedDeclarator, IsShapedParam}
use Rattle.jr_tree.specs.Depth.{deepest, init_depth, declarator_depth}
use Rattle.jr_tree.specs.Tokens.{declarator_tokens}
use Rattle.jr_tree.specs.Mirror.Exprs as x
use Rattle.jr_tree.specs.Mirror.Stmts as s
use Rattle.jr_parse_laws.specs.Parsers.{and_then, first, is_at, is_at_word, begins_with, identifier, many, after_comma}
use Rattle.jr_parse_laws.proofs.Outcomes.{bind_ok, chosen, ok_is, is_symbol_is, is_word_is}
use Rattle.jr_parse_laws.proofs.Exact.{identifier_token}
use Rattle.jr_parse_laws.proofs.Turns.{at_first}
use Rattle.jr_parse_expr.specs.Names.{dims, type_use}
use Rattle.jr_parse_expr.specs.Exprs.{init}
use Rattle.jr_parse_expr.specs.Writing.{write_all, write_brackets, write_base, write_type}
use Rattle.jr_parse_expr.specs.Follow.{is_plain_name, DotFree}
use Rattle.jr_parse_expr.proofs.NameReads.{dims_read, dims_sound, type_read, type_sound}
use Rattle.jr_parse_expr.proofs.Asked.{depth_pos, list_depth_pos}
use Rattle.jr_parse_expr.proofs.Initializers.{init_ends}
use Rattle.jr_parse_expr.proofs.Readings.{inits_complete, inits_sound}
use Rattle.jr_parse_defs.specs.Stmts.{initializer, declarator_after, declarator, declarators, declarators_after, finality, param}
use Rattle.jr_parse_defs.specs.Begins.{starts_param}
use Rattle.jr_parse_defs.specs.Writing.{write_if, write_after, write_assigned, write_declarator, write_later, write_declarators, write_param}
use Rattle.jr_parse_defs.proofs.Written.{declarator_written, longer_by}
use Rattle.jr_parse_defs.proofs.Tokens.{eats, within_sound, Apart, apart_semicolon, apart_comma}
use Rattle.jr_parse_defs.proofs.Lists.{together, asunder, Sound, list_read, list_sound}

init_depth_pos : (i : x.Init) → 1 ≤ init_depth i
init_depth_pos (x.Value value) = depth_pos value
init_depth_pos (x.Listed l) = list_depth_pos l

-- ---- a variable

initializer_read : (room : ℕ) (i : Option x.Init) (rest : List Kind) → IfSome i IsShapedInit → option_map_or init_depth i 0 ≤ room → Apart (first rest) → initializer room (write_assigned i rest) ≡ Ok (i, rest)
initializer_read room None rest s low apart = let g : is_at y.Assign rest ≡ false = sym (at_first y.Assign rest) ∙ apart.no_assign in rw g refl
initializer_read room (Some i) rest s low apart =
    let pos = init_depth_pos i in
    let low_init : init_depth i ≤ room = low in
    rw (le-ltb room 1 (omega arith), inits_complete room i rest s low_init (init_ends i (first rest) s apart.closes)) refl

record InitializerFound (room : ℕ) (ts : List Kind) (r : Option x.Init × List Kind) : Type 0 where
  shaped : IfSome r.0 IsShapedInit
  low : option_map_or init_depth r.0 0 ≤ room
  written : ts ≡ write_assigned r.0 r.1

initializer_sound : (room : ℕ) (ts : List Kind) (r : Option x.Init × List Kind) → initializer room ts ≡ Ok r → InitializerFound room ts r
initializer_sound room [] r h = subst (InitializerFound room []) (ok_is h) (record { shaped = tt; low = omega arith; written = refl })
initializer_sound room (token ∷ ts) r h =
    elim (chosen (is_at y.Assign (token ∷ ts)) _ _ _ h) [
      | inl t ↦
          (let i = bind_ok (init room ts) _ r (within_sound room 1 _ _ r t.1) in
          let found = inits_sound room ts i.0 i.1 in
          subst (InitializerFound room (token ∷ ts)) (ok_is i.2)
          (record { shaped = found.shaped; low = found.low; written = ap (λ token. token ∷ ts) (is_symbol_is y.Assign token t.0) ∙ ap (λ us. kind.Sym y.Assign ∷ us) found.written }))
      | inr t ↦ subst (InitializerFound room (token ∷ ts)) (ok_is t.1) (record { shaped = tt; low = omega arith; written = refl })
    ]

no_bracket_assigned : (i : Option x.Init) (rest : List Kind) → Apart (first rest) → begins_with y.OpenBracket (first (write_assigned i rest)) ≡ false
no_bracket_assigned None rest apart = apart.no_bracket
no_bracket_assigned (Some i) rest apart = refl

-- behind the variable's name
declarator_after_read : (room : ℕ) (name : Text) (pairs : ℕ) (i : Option x.Init) (rest : List Kind) → IfSome i IsShapedInit → option_map_or init_depth i 0 ≤ room → Apart (first rest)
    → declarator_after room name (write_brackets pairs (write_assigned i rest)) ≡ Ok (s.DeclaratorOf name pairs i, rest)
unfolding declarator_after
declarator_after_read room name pairs i rest s low apart = rw (dims_read pairs (write_assigned i rest) (no_bracket_assigned i rest apart), initializer_read room i rest s low apart) refl

pub record DeclaratorFound (room : ℕ) (ts : List Kind) (r : s.Declarator × List Kind) : Type 0 where
  pub shaped : IsShapedDeclarator r.0
  pub low : declarator_depth r.0 ≤ room
  pub written : ts ≡ write_declarator r.0 r.1

pub declarator_after_sound : (room : ℕ) (name : Text) (ts : List Kind) (r : s.Declarator × List Kind) → declarator_after room name ts ≡ Ok r → DeclaratorFound room (kind.Ident name ∷ ts) r
unfolding declarator_after
declarator_after_sound room name ts r h =
    let n = bind_ok (dims ts) _ r h in
    let i = bind_ok (initializer room n.0.1) _ r n.2 in
    let found = initializer_sound room n.0.1 i.0 i.1 in
    subst (DeclaratorFound room (kind.Ident name ∷ ts)) (ok_is i.2)
    (record { shaped = found.shaped; low = found.low; written = ap (λ us. kind.Ident name ∷ us) ((dims_sound ts n.0 n.1).0 ∙ ap (write_brackets n.0.0) found.written) })

declarator_read : (room : ℕ) (d : s.Declarator) (rest : List Kind) → IsShapedDeclarator d → declarator_depth d ≤ room → Apart (first rest) → declarator room (write_declarator d rest) ≡ Ok (d, rest)
declarator_read room (s.DeclaratorOf name pairs i) rest s low apart = declarator_after_read room name pairs i rest s low apart

pub declarator_sound : (room : ℕ) (ts : List Kind) (r : s.Declarator × List Kind) → declarator room ts ≡ Ok r → DeclaratorFound room ts r
declarator_sound room ts r h =
    let name = bind_ok (identifier ts) _ r h in
    subst (λ ts. DeclaratorFound room ts r) (sym (identifier_token.took ts name.0 name.1)) (declarator_after_sound room name.0.0 name.0.1 r name.2)

-- ---- variables with commas

abbrev pub Fits : ℕ → s.Declarator → Type 0
Fits room d = IsShapedDeclarator d × (declarator_depth d ≤ room)

pub later_sound : (room : ℕ) → Sound (Fits room) (write_after write_declarator) (after_comma (declarator room))
later_sound room ts r h =
    let a = eats y.Comma ts _ r h in
    let found = declarator_sound room a.rest r a.more in
    ((found.shaped, found.low), a.written ∙ ap (λ us. kind.Sym y.Comma ∷ us) found.written)

pub later_longer : (room : ℕ) (d : s.Declarator) (rest : List Kind) → Fits room d → suc (length rest) ≤ length (write_after write_declarator d rest)
later_longer room d rest is = let l = longer_by (declarator_tokens d) rest (write_declarator d rest) (declarator_written d rest) in omega arith

later_read : (room : ℕ) (ds : List s.Declarator) (rest : List Kind) → AllByRecursion (Fits room) ds
    → many (begins_with y.Comma) (after_comma (declarator room)) (write_later ds (kind.Sym y.Semicolon ∷ rest)) ≡ Ok (ds, kind.Sym y.Semicolon ∷ rest)
later_read room ds rest are =
    list_read (begins_with y.Comma) (after_comma (declarator room)) refl (Fits room) (write_after write_declarator) (later_sound room) (later_longer room) Apart apart_comma (λ d rest is. refl)
    (λ d rest is apart. declarator_read room d rest is.0 is.1 apart) ds (kind.Sym y.Semicolon ∷ rest) are refl apart_semicolon

apart_later : (ds : List s.Declarator) (rest : List Kind) → Apart (first (write_later ds (kind.Sym y.Semicolon ∷ rest)))
apart_later [] rest = apart_semicolon
apart_later (d ∷ ds) rest = apart_comma (Some (kind.Sym y.Comma)) refl

abbrev pub AreVariables : ℕ → List s.Declarator → Type 0
AreVariables room ds = (not (is_empty ds) ≡ true) × AllByRecursion IsShapedDeclarator ds × (deepest declarator_depth ds ≤ room)

pub declarators_read : (room : ℕ) (ds : List s.Declarator) (rest : List Kind) → AreVariables room ds → declarators room (write_declarators ds (kind.Sym y.Semicolon ∷ rest)) ≡ Ok (ds, kind.Sym y.Semicolon ∷ rest)
declarators_read room [] rest are = absurd (let h = are.0 in cc)
declarators_read room (d ∷ ds) rest are =
    let fits = together IsShapedDeclarator declarator_depth room (d ∷ ds) are.1 are.2 in
    rw (declarator_read room d (write_later ds (kind.Sym y.Semicolon ∷ rest)) fits.0.0 fits.0.1 (apart_later ds rest), later_read room ds rest fits.1) refl

-- behind the first variable's name
pub declarators_after_read : (room : ℕ) (name : Text) (pairs : ℕ) (i : Option x.Init) (ds : List s.Declarator) (rest : List Kind) → AreVariables room (s.DeclaratorOf name pairs i ∷ ds)
    → declarators_after room name (write_brackets pairs (write_assigned i (write_later ds (kind.Sym y.Semicolon ∷ rest)))) ≡ Ok (s.DeclaratorOf name pairs i ∷ ds, kind.Sym y.Semicolon ∷ rest)
unfolding declarators_after
declarators_after_read room name pairs i ds rest are =
    let fits = together IsShapedDeclarator declarator_depth room (s.DeclaratorOf name pairs i ∷ ds) are.1 are.2 in
    rw (declarator_after_read room name pairs i (write_later ds (kind.Sym y.Semicolon ∷ rest)) fits.0.0 fits.0.1 (apart_later ds rest), later_read room ds rest fits.1) refl

pub record VariablesFound (room : ℕ) (ts : List Kind) (r : List s.Declarator × List Kind) : Type 0 where
  pub are : AreVariables room r.0
  pub written : ts ≡ write_declarators r.0 r.1

variables_made : (room : ℕ) (ts : List Kind) (d : s.Declarator × List Kind) (r : List s.Declarator × List Kind) → DeclaratorFound room ts d
    → and_then (many (begins_with y.Comma) (after_comma (declarator room)) d.1) (λ others rest. Ok (d.0 ∷ others, rest)) ≡ Ok r → VariablesFound room ts r
variables_made room ts d r one h =
    let all = bind_ok (many (begins_with y.Comma) (after_comma (declarator room)) d.1) _ r h in
    let found = list_sound (begins_with y.Comma) (after_comma (declarator room)) refl (Fits room) (write_after write_declarator) (later_sound room) (later_longer room) d.1 all.0 all.1 in
    let both = asunder IsShapedDeclarator declarator_depth room (d.0 ∷ all.0.0) ((one.shaped, one.low), found.are) in
    subst (VariablesFound room ts) (ok_is all.2) (record { are = (refl, both.0, both.1); written = one.written ∙ ap (write_declarator d.0) found.written })

pub declarators_sound : (room : ℕ) (ts : List Kind) (r : List s.Declarator × List Kind) → declarators room ts ≡ Ok r → VariablesFound room ts r
declarators_sound room ts r h =
    let d = bind_ok (declarator room ts) _ r h in
    variables_made room ts d.0 r (declarator_sound room ts d.0 d.1) d.2

pub declarators_after_sound : (room : ℕ) (name : Text) (ts : List Kind) (r : List s.Declarator × List Kind) → declarators_after room name ts ≡ Ok r → VariablesFound room (kind.Ident name ∷ ts) r
unfolding declarators_after
declarators_after_sound room name ts r h =
    let d = bind_ok (declarator_after room name ts) _ r h in
    variables_made room (kind.Ident name ∷ ts) d.0 r (declarator_after_sound room name ts d.0 d.1) d.2

-- ---- what stands before them

no_final_type : (t : TypeUse) (rest : List Kind) → IsTypeUse t → is_at_word k.Final (write_type t rest) ≡ false
no_final_type t rest is = of_base t.base is where
  of_name : (all : List Text) (ts : List Kind) → not (is_empty all) ≡ true → is_at_word k.Final (write_all all ts) ≡ false
  of_name [] ts h = absurd (cc)
  of_name (part ∷ all) ts h = refl

  of_base : (b : Base) → IsBase b → is_at_word k.Final (write_base b (write_brackets t.dims rest)) ≡ false
  of_base (base.Named n) h = of_name n.parts (write_brackets t.dims rest) h
  of_base (base.Primitive primitive.Boolean) h = refl
  of_base (base.Primitive primitive.Byte) h = refl
  of_base (base.Primitive primitive.Short) h = refl
  of_base (base.Primitive primitive.Char) h = refl
  of_base (base.Primitive primitive.Int) h = refl
  of_base (base.Primitive primitive.Long) h = refl

pub finality_read : (b : Bool) (t : TypeUse) (rest : List Kind) → IsTypeUse t → finality (write_if b (kind.Word k.Final) (write_type t rest)) ≡ Ok (b, write_type t rest)
finality_read true t rest is = refl
finality_read false t rest is = rw (no_final_type t rest is) refl

pub finality_sound : (ts : List Kind) (r : Bool × List Kind) → finality ts ≡ Ok r → ts ≡ write_if r.0 (kind.Word k.Final) r.1
finality_sound [] r h = ap (λ (r : Bool × List Kind). write_if r.0 (kind.Word k.Final) r.1) (ok_is h)
finality_sound (token ∷ ts) r h =
    elim (chosen (is_at_word k.Final (token ∷ ts)) _ _ _ h) [
      | inl t ↦ ap (λ token. token ∷ ts) (is_word_is k.Final token t.0) ∙ ap (λ (r : Bool × List Kind). write_if r.0 (kind.Word k.Final) r.1) (ok_is t.1)
      | inr t ↦ ap (λ (r : Bool × List Kind). write_if r.0 (kind.Word k.Final) r.1) (ok_is t.1)
    ]

-- a type before a name
pub type_before : (t : TypeUse) (name : Text) (rest : List Kind) → IsTypeUse t → type_use (write_type t (kind.Ident name ∷ rest)) ≡ Ok (t, kind.Ident name ∷ rest)
type_before t name rest is = type_read t (kind.Ident name ∷ rest) is (refl, free (is_plain_name t)) where
  free : (b : Bool) → DotFree b (Some (kind.Ident name))
  free true = refl
  free false = tt

-- ---- a parameter

pub param_read : (p : Param) (rest : List Kind) → IsShapedParam p → begins_with y.OpenBracket (first rest) ≡ false → param (write_param p rest) ≡ Ok (p, rest)
unfolding param
param_read p rest is h =
    rw (finality_read p.is_final p.ty (kind.Ident p.name ∷ write_brackets p.dims rest) is, type_before p.ty p.name (write_brackets p.dims rest) is, dims_read p.dims rest h) refl

pub param_sound : Sound IsShapedParam write_param param
unfolding param
param_sound ts r h =
    let f = bind_ok (finality ts) _ r h in
    let t = bind_ok (type_use f.0.1) _ r f.2 in
    let found = type_sound f.0.1 t.0 t.1 in
    let name = bind_ok (identifier t.0.1) _ r t.2 in
    let n = bind_ok (dims name.0.1) _ r name.2 in
    subst (λ (r : Param × List Kind). IsShapedParam r.0 × (ts ≡ write_param r.0 r.1)) (ok_is n.2) (
      found.is,
      finality_sound ts f.0 f.1
          ∙ ap (write_if f.0.0 (kind.Word k.Final))
          (found.written ∙ ap (write_type t.0.0) (identifier_token.took t.0.1 name.0 name.1 ∙ ap (λ us. kind.Ident name.0.0 ∷ us) (dims_sound name.0.1 n.0 n.1).0)),
    )

pub param_begins : (p : Param) (rest : List Kind) → IsShapedParam p → starts_param (first (write_param p rest)) ≡ true
param_begins p rest is = of_final p.is_final where
  of_name : (all : List Text) (ts : List Kind) → not (is_empty all) ≡ true → starts_param (first (write_all all ts)) ≡ true
  of_name [] ts h = absurd (cc)
  of_name (part ∷ all) ts h = refl

  of_base : (b : Base) (ts : List Kind) → IsBase b → starts_param (first (write_base b ts)) ≡ true
  of_base (base.Named n) ts h = of_name n.parts ts h
  of_base (base.Primitive primitive.Boolean) ts h = refl
  of_base (base.Primitive primitive.Byte) ts h = refl
  of_base (base.Primitive primitive.Short) ts h = refl
  of_base (base.Primitive primitive.Char) ts h = refl
  of_base (base.Primitive primitive.Int) ts h = refl
  of_base (base.Primitive primitive.Long) ts h = refl

  of_final : (b : Bool) → starts_param (first (write_if b (kind.Word k.Final) (write_type p.ty (kind.Ident p.name ∷ write_brackets p.dims rest)))) ≡ true
  of_final true = refl
  of_final false = of_base p.ty.base (write_brackets p.ty.dims (kind.Ident p.name ∷ write_brackets p.dims rest)) is

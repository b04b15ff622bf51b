-- Reading modifiers, lists of names and parameters is exact in both directions.
use Rattle.std.proofs.Common.{◌≡◌, suc, ◌≤◌, true, false, List, [], ◌∷◌, length, Option, Some, None, Ok, refl, ap, ◌∙◌, subst, inl, inr, arith}
use Rattle.std.specs.Prelude.{IfSome}
use Rattle.std.specs.List.{AllByRecursion}
use Rattle.jr_base.specs.declared.kind.Kind.{Kind}
use Rattle.jr_base.specs.declared.kind.Kind.TheVariants as kind
use Rattle.jr_base.specs.declared.kind.Symbol.TheVariants as y
use Rattle.jr_base.specs.declared.kind.Keyword.{Keyword}
use Rattle.jr_base.specs.declared.kind.Keyword.TheVariants as k
use Rattle.jr_tree.specs.declared.tree.Name.{Name}
use Rattle.jr_tree.specs.declared.tree.Param.{Param}
use Rattle.jr_tree.specs.declared.tree.Modifier.{Modifier}
use Rattle.jr_tree.specs.declared.tree.Modifier.TheVariants as modifier
use Rattle.jr_tree.specs.Words.{modifier_word, name_tokens, param_tokens}
use Rattle.jr_tree.specs.Shape.{IsName, IsShapedParam}
use Rattle.jr_parse_laws.specs.Parsers.{Parser, first, is_at_word, begins_with, many, after_comma}
use Rattle.jr_parse_laws.proofs.Outcomes.{bind_ok, chosen, ok_is, err_ok, some_is}
use Rattle.jr_parse_expr.specs.Names.{name}
use Rattle.jr_parse_expr.specs.Exprs.{next_token, any_commas}
use Rattle.jr_parse_expr.specs.Writing.{write_name}
use Rattle.jr_parse_expr.proofs.Written.{name_written}
use Rattle.jr_parse_expr.proofs.NameReads.{name_read, name_sound}
use Rattle.jr_parse_defs.specs.Begins.{modifier_of, modifier_kind, starts_modifier, starts_param}
use Rattle.jr_parse_defs.specs.Stmts.{param}
use Rattle.jr_parse_defs.specs.Decls as reader
use Rattle.jr_parse_defs.specs.Writing.{write_after, write_modifier, write_modifiers, write_param, write_later_params, write_params, write_later_names, write_names_after, write_parent}
use Rattle.jr_parse_defs.proofs.Written.{param_written, longer_by}
use Rattle.jr_parse_defs.proofs.Tokens.{eats, skipped_word}
use Rattle.jr_parse_defs.proofs.Lists.{Sound, list_read, list_sound}
use Rattle.jr_parse_defs.proofs.Variables.{param_read, param_sound, param_begins}

-- ---- modifiers

abbrev pub one : Parser Modifier
one = next_token (λ token. reader.modifier_by (modifier_kind token) token)

here : (m : Modifier) → modifier_kind (kind.Word (modifier_word m)) ≡ Some m
here modifier.Public = refl
here modifier.Protected = refl
here modifier.Private = refl
here modifier.Abstract = refl
here modifier.Static = refl
here modifier.Final = refl
here modifier.Native = refl

back_word : (w : Keyword) (m : Modifier) → modifier_of w ≡ Some m → w ≡ modifier_word m
back_word k.Public m h = ap modifier_word (some_is h)
back_word k.Protected m h = ap modifier_word (some_is h)
back_word k.Private m h = ap modifier_word (some_is h)
back_word k.Abstract m h = ap modifier_word (some_is h)
back_word k.Static m h = ap modifier_word (some_is h)
back_word k.Final m h = ap modifier_word (some_is h)
back_word k.Native m h = ap modifier_word (some_is h)
back_word _ m h = absurd (cc)

back : (token : Kind) (m : Modifier) → modifier_kind token ≡ Some m → token ≡ kind.Word (modifier_word m)
back (kind.Word w) m h = ap kind.Word (back_word w m h)
back token m h = absurd (cc)

one_read : (m : Modifier) (rest : List Kind) → one (write_modifier m rest) ≡ Ok (m, rest)
one_read m rest = ap (λ o. reader.modifier_by o (kind.Word (modifier_word m)) rest) (here m)

by_sound : (o : Option Modifier) (token : Kind) (ts : List Kind) (r : Modifier × List Kind) → modifier_kind token ≡ o → reader.modifier_by o token ts ≡ Ok r → token ∷ ts ≡ write_modifier r.0 r.1
by_sound None token ts r g h = absurd (err_ok h)
by_sound (Some m) token ts r g h = ap (λ token. token ∷ ts) (back token m g) ∙ ap (λ (r : Modifier × List Kind). write_modifier r.0 r.1) (ok_is h)

abbrev pub Fine : Modifier → Type 0
Fine m = Unit {0}

pub one_sound : Sound Fine write_modifier one
one_sound [] r h = absurd (err_ok h)
one_sound (token ∷ ts) r h = (tt, by_sound (modifier_kind token) token ts r refl h)

pub one_longer : (m : Modifier) (rest : List Kind) → Fine m → suc (length rest) ≤ length (write_modifier m rest)
one_longer m rest is = omega arith

one_starts : (m : Modifier) (rest : List Kind) → Fine m → starts_modifier (first (write_modifier m rest)) ≡ true
one_starts modifier.Public rest is = refl
one_starts modifier.Protected rest is = refl
one_starts modifier.Private rest is = refl
one_starts modifier.Abstract rest is = refl
one_starts modifier.Static rest is = refl
one_starts modifier.Final rest is = refl
one_starts modifier.Native rest is = refl

all_fine : (ms : List Modifier) → AllByRecursion Fine ms
all_fine [] = tt
all_fine (m ∷ ms) = (tt, all_fine ms)

pub modifiers_read : (ms : List Modifier) (rest : List Kind) → starts_modifier (first rest) ≡ false → reader.modifiers (write_modifiers ms rest) ≡ Ok (ms, rest)
unfolding reader.modifiers
modifiers_read ms rest over = list_read starts_modifier one refl Fine write_modifier one_sound one_longer (λ o. Unit {0}) (λ o h. tt) one_starts (λ m rest is h. one_read m rest) ms rest (all_fine ms) over tt

pub record ModifiersFound (ts : List Kind) (r : List Modifier × List Kind) : Type 0 where
  pub written : ts ≡ write_modifiers r.0 r.1
  pub over : starts_modifier (first r.1) ≡ false

pub modifiers_sound : (ts : List Kind) (r : List Modifier × List Kind) → reader.modifiers ts ≡ Ok r → ModifiersFound ts r
unfolding reader.modifiers
modifiers_sound ts r h = let found = list_sound starts_modifier one refl Fine write_modifier one_sound one_longer ts r h in record { written = found.written; over = found.ended }

-- ---- names behind a word

-- a token that goes on with no name and no list of names
pub record Ended (o : Option Kind) : Type 0 where
  pub no_dot : begins_with y.Dot o ≡ false
  pub no_comma : begins_with y.Comma o ≡ false

pub later_name_sound : Sound IsName (write_after write_name) (after_comma name)
later_name_sound ts r h =
    let a = eats y.Comma ts _ r h in
    let found = name_sound a.rest r a.more in
    (found.0, a.written ∙ ap (λ us. kind.Sym y.Comma ∷ us) found.1)

pub later_name_longer : (n : Name) (rest : List Kind) → IsName n → suc (length rest) ≤ length (write_after write_name n rest)
later_name_longer n rest is = let l = longer_by (name_tokens n) rest (write_name n rest) (name_written n rest) in omega arith

comma_no_dot : (o : Option Kind) → begins_with y.Comma o ≡ true → begins_with y.Dot o ≡ false
comma_no_dot None h = refl
comma_no_dot (Some (kind.Sym y.Comma)) h = refl
comma_no_dot (Some token) h = absurd (cc)

later_names_read : (ns : List Name) (rest : List Kind) → AllByRecursion IsName ns → Ended (first rest) → many (begins_with y.Comma) (after_comma name) (write_later_names ns rest) ≡ Ok (ns, rest)
later_names_read ns rest are ended =
    list_read (begins_with y.Comma) (after_comma name) refl IsName (write_after write_name) later_name_sound later_name_longer (λ o. begins_with y.Dot o ≡ false) comma_no_dot (λ n rest is. refl)
    (λ n rest is h. name_read n rest is h) ns rest are ended.no_comma ended.no_dot

no_dot_later : (ns : List Name) (rest : List Kind) → Ended (first rest) → begins_with y.Dot (first (write_later_names ns rest)) ≡ false
no_dot_later [] rest ended = ended.no_dot
no_dot_later (n ∷ ns) rest ended = refl

pub names_after_read : (w : Keyword) (ns : List Name) (rest : List Kind) → AllByRecursion IsName ns → Ended (first rest) → is_at_word w rest ≡ false → is_at_word w (kind.Word w ∷ []) ≡ true
    → reader.names_after w (write_names_after w ns rest) ≡ Ok (ns, rest)
names_after_read w [] rest are ended none some = rw none refl
names_after_read w (n ∷ ns) rest are ended none some =
    rw (some, name_read n (write_later_names ns rest) are.0 (no_dot_later ns rest ended), later_names_read ns rest are.1 ended) refl

pub record NamesFound (w : Keyword) (ts : List Kind) (r : List Name × List Kind) : Type 0 where
  pub are : AllByRecursion IsName r.0
  pub written : ts ≡ write_names_after w r.0 r.1

pub names_after_sound : (w : Keyword) (ts : List Kind) (r : List Name × List Kind) → reader.names_after w ts ≡ Ok r → NamesFound w ts r
names_after_sound w ts r h =
    elim (chosen (is_at_word w ts) _ _ _ h) [
      | inl t ↦
          (let u = skipped_word w _ ts r t.0 t.1 in
          let n = bind_ok (name u.0) _ r u.2 in
          let one = name_sound u.0 n.0 n.1 in
          let all = bind_ok (many (begins_with y.Comma) (after_comma name) n.0.1) _ r n.2 in
          let found = list_sound (begins_with y.Comma) (after_comma name) refl IsName (write_after write_name) later_name_sound later_name_longer n.0.1 all.0 all.1 in
          subst (NamesFound w ts) (ok_is all.2)
          (record { are = (one.0, found.are); written = u.1 ∙ ap (λ us. kind.Word w ∷ us) (one.1 ∙ ap (write_name n.0.0) found.written) }))
      | inr t ↦ subst (NamesFound w ts) (ok_is t.1) (record { are = tt; written = refl })
    ]

pub parent_read : (p : Option Name) (rest : List Kind) → IfSome p IsName → begins_with y.Dot (first rest) ≡ false → is_at_word k.Extends rest ≡ false → reader.parent (write_parent p rest) ≡ Ok (p, rest)
parent_read None rest is dot none = rw none refl
parent_read (Some n) rest is dot none = rw (name_read n rest is dot) refl

pub parent_sound : (ts : List Kind) (r : Option Name × List Kind) → reader.parent ts ≡ Ok r → IfSome r.0 IsName × (ts ≡ write_parent r.0 r.1)
parent_sound ts r h =
    elim (chosen (is_at_word k.Extends ts) _ _ _ h) [
      | inl t ↦
          (let u = skipped_word k.Extends _ ts r t.0 t.1 in
          let n = bind_ok (name u.0) _ r u.2 in
          let found = name_sound u.0 n.0 n.1 in
          subst (λ (r : Option Name × List Kind). IfSome r.0 IsName × (ts ≡ write_parent r.0 r.1)) (ok_is n.2) (found.0, u.1 ∙ ap (λ us. kind.Word k.Extends ∷ us) found.1))
      | inr t ↦ subst (λ (r : Option Name × List Kind). IfSome r.0 IsName × (ts ≡ write_parent r.0 r.1)) (ok_is t.1) (tt, refl)
    ]

-- ---- parameters

pub later_param_sound : Sound IsShapedParam (write_after write_param) (after_comma param)
later_param_sound ts r h =
    let a = eats y.Comma ts _ r h in
    let found = param_sound a.rest r a.more in
    (found.0, a.written ∙ ap (λ us. kind.Sym y.Comma ∷ us) found.1)

pub later_param_longer : (p : Param) (rest : List Kind) → IsShapedParam p → suc (length rest) ≤ length (write_after write_param p rest)
later_param_longer p rest is = let l = longer_by (param_tokens p) rest (write_param p rest) (param_written p rest) in omega arith

comma_no_bracket : (o : Option Kind) → begins_with y.Comma o ≡ true → begins_with y.OpenBracket o ≡ false
comma_no_bracket None h = refl
comma_no_bracket (Some (kind.Sym y.Comma)) h = refl
comma_no_bracket (Some token) h = absurd (cc)

abbrev close : List Kind → List Kind
close rest = kind.Sym y.CloseParen ∷ rest

later_params_read : (ps : List Param) (rest : List Kind) → AllByRecursion IsShapedParam ps → many (begins_with y.Comma) (after_comma param) (write_later_params ps (close rest)) ≡ Ok (ps, close rest)
later_params_read ps rest are =
    list_read (begins_with y.Comma) (after_comma param) refl IsShapedParam (write_after write_param) later_param_sound later_param_longer (λ o. begins_with y.OpenBracket o ≡ false) comma_no_bracket (λ p rest is. refl)
    (λ p rest is h. param_read p rest is h) ps (close rest) are refl refl

no_bracket_later : (ps : List Param) (rest : List Kind) → begins_with y.OpenBracket (first (write_later_params ps (close rest))) ≡ false
no_bracket_later [] rest = refl
no_bracket_later (p ∷ ps) rest = refl

pub params_read : (ps : List Param) (rest : List Kind) → AllByRecursion IsShapedParam ps → reader.params (write_params ps rest) ≡ Ok (ps, rest)
params_read [] rest are = refl
params_read (p ∷ ps) rest are =
    let ts = write_later_params ps (close rest) in
    rw (param_begins p ts are.0, param_read p ts are.0 (no_bracket_later ps rest), later_params_read ps rest are.1) refl

some_params : (ts : List Kind) (r : List Param × List Kind) → any_commas starts_param param ts ≡ Ok r → (rest : List Kind) → r.1 ≡ close rest → AllByRecursion IsShapedParam r.0 × (kind.Sym y.OpenParen ∷ ts ≡ write_params r.0 rest)
some_params ts r h rest end =
    elim (chosen (starts_param (first ts)) _ _ _ h) [
      | inl t ↦
          (let p = bind_ok (param ts) _ r t.1 in
          let one_found = param_sound ts p.0 p.1 in
          let all = bind_ok (many (begins_with y.Comma) (after_comma param) p.0.1) _ r p.2 in
          let found = list_sound (begins_with y.Comma) (after_comma param) refl IsShapedParam (write_after write_param) later_param_sound later_param_longer p.0.1 all.0 all.1 in
          let same = ok_is all.2 in
          let end_here : all.0.1 ≡ close rest = ap (λ (r : List Param × List Kind). r.1) same ∙ end in
          subst (λ (ps : List Param). AllByRecursion IsShapedParam ps × (kind.Sym y.OpenParen ∷ ts ≡ write_params ps rest)) (ap (λ (r : List Param × List Kind). r.0) same)
          ((one_found.0, found.are), ap (λ us. kind.Sym y.OpenParen ∷ us) (one_found.1 ∙ ap (write_param p.0.0) (found.written ∙ ap (write_later_params all.0.0) end_here))))
      | inr t ↦
          (let same = ok_is t.1 in
          let end_here : ts ≡ close rest = ap (λ (r : List Param × List Kind). r.1) same ∙ end in
          subst (λ (ps : List Param). AllByRecursion IsShapedParam ps × (kind.Sym y.OpenParen ∷ ts ≡ write_params ps rest)) (ap (λ (r : List Param × List Kind). r.0) same)
          (tt, ap (λ us. kind.Sym y.OpenParen ∷ us) end_here))
    ]

pub params_sound : (ts : List Kind) (r : List Param × List Kind) → reader.params ts ≡ Ok r → AllByRecursion IsShapedParam r.0 × (ts ≡ write_params r.0 r.1)
params_sound ts r h =
    let a = eats y.OpenParen ts _ r h in
    let ps = bind_ok (any_commas starts_param param a.rest) _ r a.more in
    let b = eats y.CloseParen ps.0.1 _ r ps.2 in
    let found = some_params a.rest ps.0 ps.1 b.rest b.written in
    subst (λ (r : List Param × List Kind). AllByRecursion IsShapedParam r.0 × (ts ≡ write_params r.0 r.1)) (ok_is b.more) (found.0, a.written ∙ found.1)

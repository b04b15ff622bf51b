-- Where reading a member or a declaration of a type stops, what stands before begins one.
use Rattle.std.proofs.Common.{◌≡◌, ℕ, zero, suc, ◌≤◌, Bool, true, false, List, [], ◌∷◌, Option, Some, None, Ok, Err, refl, sym, ap, ◌∙◌, subst, inl, inr, arith}
use Rattle.std.proofs.lemmas.Bool.{cases_lt, true≢false}
use Rattle.std.specs.Prelude.{IfSome}
use Rattle.std.specs.List.{AllByRecursion}
use Rattle.std.specs.Option.{option_map_or}
use Rattle.jr_base.specs.declared.text.Text.{Text}
use Rattle.jr_base.specs.declared.kind.Kind.{Kind}
use Rattle.jr_base.specs.declared.kind.Kind.TheVariants as kind
use Rattle.jr_base.specs.declared.kind.Symbol.TheVariants as y
use Rattle.jr_base.specs.declared.kind.Keyword.{Keyword}
use Rattle.jr_base.specs.declared.kind.Keyword.TheVariants as k
use Rattle.jr_tree.specs.declared.tree.Name.{Name}
use Rattle.jr_tree.specs.declared.tree.Base.TheVariants as base
use Rattle.jr_tree.specs.declared.tree.TypeUse.{TypeUse}
use Rattle.jr_tree.specs.declared.tree.Param.{Param}
use Rattle.jr_tree.specs.declared.tree.Primitive.{Primitive}
use Rattle.jr_tree.specs.declared.tree.Primitive.TheVariants as primitive
use Rattle.jr_tree.specs.declared.tree.Modifier.{Modifier}
use Rattle.jr_tree.specs.declared.tree.Modifier.TheVariants as modifier
use Rattle.jr_tree.specs.declared.tree.ResultType.{ResultType}
use Rattle.jr_tree.specs.declared.tree.ResultType.TheVariants as outcome
use Rattle.jr_tree.specs.Words.{primitive_word, modifier_word, modifiers_tokens, result_tokens, names_after, parent_tokens, params_tokens}
use Rattle.jr_tree.specs.Shape.{IsName, IsTypeUse, IsShapedParam, IsShapedResult, IsShapedBlock, IsShapedDecl, IsShapedMember, AreShapedMembers}
use Rattle.jr_tree.specs.Depth.{deepest, block_depth, decl_depth, member_depth, members_depth}
use Rattle.jr_tree.specs.Tokens.{member_tokens, members_tokens}
use Rattle.jr_tree.specs.Mirror.Stmts as s
use Rattle.jr_tree.specs.Mirror.Decls as d
use Rattle.jr_parse_laws.specs.declared.fault.Fault.{Fault}
use Rattle.jr_parse_laws.specs.declared.fault.Fault.TheVariants.{NoTree}
use Rattle.jr_parse_laws.specs.Parsers.{Parser, and_then, first, begins_with, is_at, identifier, many, after_comma, ◌>>=◌}
use Rattle.jr_parse_laws.proofs.Outcomes.{bind_ok, ok_is, ok_err, err_is}
use Rattle.jr_parse_laws.proofs.Stops.{Leading, leading_nothing}
use Rattle.jr_parse_expr.specs.Names.{name_of, type_of, dims, primitive_kind, name}
use Rattle.jr_parse_expr.specs.Exprs.{any_commas}
use Rattle.jr_parse_expr.specs.Writing.{write_name, write_type}
use Rattle.jr_parse_expr.proofs.NameReads.{name_sound, dims_sound, type_sound}
use Rattle.jr_parse_expr.proofs.NameGrowths.{leading_name, name_grows, name_after_grows, dims_stop, brackets_more, leading_brackets, type_grows}
use Rattle.jr_parse_expr.proofs.Growths.{Growing, leading_tokens, leading_then, leading_one}
use Rattle.jr_parse_expr.proofs.PartGrowths.{NoLevel, Deep, Refused}
use Rattle.jr_parse_expr.proofs.AllGrowths.{no_level_is}
use Rattle.jr_parse_defs.specs.Begins.{some, modifier_kind, starts_modifier, begins_member, starts_member, starts_param}
use Rattle.jr_parse_defs.specs.Stmts.{param}
use Rattle.jr_parse_defs.specs.Decls as reader
use Rattle.jr_parse_defs.specs.Writing.{write_if, write_many, write_after, write_param, write_modifier, write_modifiers, write_later_params, write_params, write_later_names, write_names_after, write_parent, write_result, write_body, write_decl, write_member, write_members}
use Rattle.jr_parse_defs.proofs.Written.{modifiers_written, result_written, names_after_written, parent_written, params_written, member_written, members_written}
use Rattle.jr_parse_defs.proofs.Lists.{list_sound, list_stop, asunder}
use Rattle.jr_parse_defs.proofs.Variables.{param_sound, declarators_after_sound}
use Rattle.jr_parse_defs.proofs.Modifiers as modifiers
use Rattle.jr_parse_defs.proofs.Modifiers.{modifiers_sound, names_after_sound, parent_sound, params_sound}
use Rattle.jr_parse_defs.proofs.Members.{static_is}
use Rattle.jr_parse_defs.proofs.Units as units
use Rattle.jr_parse_defs.proofs.Units.{ReadsMember, both_read, members_many, members_sound}
use Rattle.jr_parse_defs.proofs.Grows.{Low, part, gone, deeps, seen, on, last, symbol_on, ident_on, ends_with, choose, at_symbol, at_word, forces, many_grow, one_of, leading_many, shaped_append, flat, flat_list}
use Rattle.jr_parse_defs.proofs.PartGrows.{leading_type, leading_declarators, leading_if, leading_after, declarators_after_grow, later_item, a_type, variable, param_grow}
use Rattle.jr_parse_defs.proofs.Starters.{empty, leading_param, leading_word, leading_symbol}
use Rattle.jr_parse_defs.proofs.StmtGrows.{suc_le, zero_le, body_grow_at}
use Rattle.jr_parse_defs.proofs.BodyGrows.{ctor_grow}

-- ---- leading parts

leading_modifiers : (ms : List Modifier) → Leading (write_modifiers ms)
leading_modifiers ms = leading_tokens (write_modifiers ms) (modifiers_tokens ms) (modifiers_written ms)

leading_result : (r : ResultType) → Leading (write_result r)
leading_result r = leading_tokens (write_result r) (result_tokens r) (result_written r)

leading_after_word : (w : Keyword) (ns : List Name) → Leading (write_names_after w ns)
leading_after_word w ns = leading_tokens (write_names_after w ns) (names_after w ns) (names_after_written w ns)

leading_parent : (p : Option Name) → Leading (write_parent p)
leading_parent p = leading_tokens (write_parent p) (parent_tokens p) (parent_written p)

leading_params : (ps : List Param) → Leading (write_params ps)
leading_params ps = leading_tokens (write_params ps) (params_tokens ps) (params_written ps)

leading_member : (m : d.Member) → Leading (write_member m)
leading_member m = leading_tokens (write_member m) (member_tokens m) (member_written m)

leading_members : (all : d.Members) → Leading (write_members all)
leading_members all = leading_tokens (write_members all) (members_tokens all) (members_written all)

-- ---- modifiers, and names behind a word

one_modifier : (o : Option Modifier) (token : Kind) (ts : List Kind) (stop : Fault × List Kind) → some o ≡ true → reader.modifier_by o token ts ≡ Err stop → ⊥
one_modifier None token ts stop starts h = absurd (cc)
one_modifier (Some m) token ts stop starts h = ok_err h

a_modifier : (ts : List Kind) (stop : Fault × List Kind) → starts_modifier (first ts) ≡ true → modifiers.one ts ≡ Err stop → ⊥
a_modifier [] stop starts h = absurd (cc)
a_modifier (token ∷ ts) stop starts h = one_modifier (modifier_kind token) token ts stop starts h

modifiers_ok : (ts : List Kind) (stop : Fault × List Kind) → reader.modifiers ts ≡ Err stop → ⊥
unfolding reader.modifiers
modifiers_ok ts stop h =
    let s = list_stop starts_modifier modifiers.one refl modifiers.Fine write_modifier modifiers.one_sound modifiers.one_longer ts stop h in
    a_modifier s.rest stop s.begun s.stopped

abbrev pub AName : ℕ → List Kind → Fault × List Kind → Type 0
AName room ts stop = Growing (Low IsName flat) write_name room ts stop

pub a_name_grow : (room : ℕ) (ts : List Kind) (stop : Fault × List Kind) → name ts ≡ Err stop → AName room ts stop
a_name_grow room ts stop h = seen room ts stop (λ r n is. (is, omega arith)) (name_grows room ts stop h)

abbrev NamesBehind : ℕ → Keyword → List Kind → Fault × List Kind → Type 0
NamesBehind room w ts stop = Growing (Low (AllByRecursion IsName) flat) (write_names_after w) room ts stop

later_names_grow : (room : ℕ) (ts : List Kind) (stop : Fault × List Kind) → many (begins_with y.Comma) (after_comma name) ts ≡ Err stop → Growing (Low (AllByRecursion IsName) (deepest flat)) write_later_names room ts stop
later_names_grow room ts stop h =
    many_grow flat (begins_with y.Comma) (after_comma name) refl IsName (write_after write_name) modifiers.later_name_sound modifiers.later_name_longer room (leading_after write_name leading_name) (shaped_append (λ n is. is)) (λ all are. flat_list room all) ts stop h
    (λ us starts e. one_of {Shape = IsName} (λ n is. (is, tt)) (later_item name room (a_name_grow room) us stop starts e))

names_grow : (room : ℕ) (w : Keyword) (ts : List Kind) (stop : Fault × List Kind) → reader.names_after w ts ≡ Err stop → NamesBehind room w ts stop
names_grow room w ts stop h =
    at_word w ts (λ ts. NamesBehind room w ts stop) h
    (λ us g. on g (λ e. part (leading_word w) (λ n. n ∷ []) (λ z. z) (λ n z. refl) (λ n is. (is, tt)) (λ n l. omega arith) (a_name_grow room us stop e))
    (λ n vs e next.
    let found = name_sound us (n, vs) e in
    subst (λ us. NamesBehind room w (kind.Word w ∷ us) stop) (sym found.1)
    (part (leading_then (leading_word w) (leading_name n)) (λ ns. n ∷ ns) (λ z. z) (λ ns z. refl) (λ ns is. (found.0, is)) (λ ns l. omega arith) (later_names_grow room vs stop (last next (λ ns us next. ok_err next))))))
    (λ f g. absurd (ok_err g))

parent_grow : (room : ℕ) (ts : List Kind) (stop : Fault × List Kind) → reader.parent ts ≡ Err stop → Growing (Low (λ (o : Option Name). IfSome o IsName) flat) write_parent room ts stop
parent_grow room ts stop h =
    at_word k.Extends ts (λ ts. Growing (Low (λ (o : Option Name). IfSome o IsName) flat) write_parent room ts stop) h
    (λ us g. part (leading_word k.Extends) (λ n. Some n) (λ z. z) (λ n z. refl) (λ n is. is) (λ n l. omega arith) (a_name_grow room us stop (last g (λ n us next. ok_err next))))
    (λ f g. absurd (ok_err g))

-- ---- parameters

abbrev Parameters : ℕ → List Kind → Fault × List Kind → Type 0
Parameters room ts stop = Growing (Low (AllByRecursion IsShapedParam) flat) write_params room ts stop

later_params_grow : (room : ℕ) (ts : List Kind) (stop : Fault × List Kind) → many (begins_with y.Comma) (after_comma param) ts ≡ Err stop → Growing (Low (AllByRecursion IsShapedParam) (deepest flat)) write_later_params room ts stop
later_params_grow room ts stop h =
    many_grow flat (begins_with y.Comma) (after_comma param) refl IsShapedParam (write_after write_param) modifiers.later_param_sound modifiers.later_param_longer room (leading_after write_param leading_param) (shaped_append (λ p is. is)) (λ all are. flat_list room all)
    ts stop h (λ us starts e. one_of {Shape = IsShapedParam} (λ p is. (is, tt)) (later_item param room (param_grow room) us stop starts e))

-- the parameters before the closing parenthesis
abbrev write_inside : List Param → List Kind → List Kind
write_inside [] rest = rest
write_inside (p ∷ ps) rest = write_param p (write_later_params ps rest)

inside_is : (ps : List Param) (z : List Kind) → write_params ps z ≡ kind.Sym y.OpenParen ∷ write_inside ps (kind.Sym y.CloseParen ∷ z)
inside_is [] z = refl
inside_is (p ∷ ps) z = refl

leading_inside : (ps : List Param) → Leading (write_inside ps)
leading_inside [] = leading_nothing
leading_inside (p ∷ ps) = leading_then (leading_param p) (leading_many (write_after write_param) (leading_after write_param leading_param) ps)

inside_sound : (ts : List Kind) (r : List Param × List Kind) → any_commas starts_param param ts ≡ Ok r → AllByRecursion IsShapedParam r.0 × (ts ≡ write_inside r.0 r.1)
inside_sound ts r h =
    choose (starts_param (first ts)) h
    (λ t g.
    let p = bind_ok (param ts) _ r g in
    let one_found = param_sound ts p.0 p.1 in
    let all = bind_ok (many (begins_with y.Comma) (after_comma param) p.0.1) _ r p.2 in
    let found = list_sound (begins_with y.Comma) (after_comma param) refl IsShapedParam (write_after write_param) modifiers.later_param_sound modifiers.later_param_longer p.0.1 all.0 all.1 in
    subst (λ (r : List Param × List Kind). AllByRecursion IsShapedParam r.0 × (ts ≡ write_inside r.0 r.1)) (ok_is all.2) ((one_found.0, found.are), one_found.1 ∙ ap (write_param p.0.0) found.written))
    (λ f g. subst (λ (r : List Param × List Kind). AllByRecursion IsShapedParam r.0 × (ts ≡ write_inside r.0 r.1)) (ok_is g) (tt, refl))

params_grow : (room : ℕ) (ts : List Kind) (stop : Fault × List Kind) → reader.params ts ≡ Err stop → Parameters room ts stop
params_grow room ts stop h =
    let closing : List Kind → List Kind = λ z. kind.Sym y.CloseParen ∷ z in
    symbol_on y.OpenParen ts (λ ts. Parameters room ts stop) h
    (λ g. gone g leading_nothing [] (λ z. kind.Sym y.OpenParen ∷ closing z) (λ z. refl) tt (omega arith))
    (λ u us next. on next
    (λ e. choose (starts_param (first us)) e
    (λ t g. on g
    (λ i. part (leading_symbol y.OpenParen) (λ p. p ∷ []) closing (λ p z. refl) (λ p is. (is, tt)) (λ p l. omega arith) (param_grow room us stop i))
    (λ p vs i j.
    let found = param_sound us (p, vs) i in
    subst (λ us. Parameters room (kind.Sym y.OpenParen ∷ us) stop) (sym found.1)
    (part (leading_then (leading_symbol y.OpenParen) (leading_param p)) (λ ps. p ∷ ps) closing (λ ps z. refl) (λ ps is. (found.0, is)) (λ ps l. omega arith) (later_params_grow room vs stop (last j (λ ps us next. ok_err next))))))
    (λ f g. absurd (ok_err g)))
    (λ ps vs e next.
    let found = inside_sound us (ps, vs) e in
    subst (λ us. Parameters room (kind.Sym y.OpenParen ∷ us) stop) (sym found.1)
    (gone (ends_with y.CloseParen vs next (λ u us next. ok_err next)) (leading_then (leading_symbol y.OpenParen) (leading_inside ps)) ps closing (λ z. inside_is ps z) found.0 (omega arith))))

-- ---- members

abbrev pub Member : ℕ → List Kind → Fault × List Kind → Type 0
Member room ts stop = Growing (Low IsShapedMember member_depth) write_member room ts stop

abbrev pub Declared : ℕ → List Kind → Fault × List Kind → Type 0
Declared room ts stop = Growing (Low IsShapedDecl decl_depth) write_decl room ts stop

pub record GrowsMember (room : ℕ) (read : Parser d.Member) : Type 0 where
  pub grow : 1 ≤ room → (ts : List Kind) (stop : Fault × List Kind) → read ts ≡ Err stop → Member room ts stop
  pub none : room ≤ 0 → (ts : List Kind) (stop : Fault × List Kind) → read ts ≡ Err stop → NoLevel starts_member ts stop

pub record GrowsDecl (room : ℕ) (read : List Modifier → Parser d.TypeDecl) : Type 0 where
  pub grow : 1 ≤ room → (mods : List Modifier) (ts : List Kind) (stop : Fault × List Kind) → read mods ts ≡ Err stop → Declared room (write_modifiers mods ts) stop

-- a field, which may stand behind any modifiers
abbrev a_field : List Modifier → d.Member
a_field mods = d.Field mods a_type (variable ∷ [])

field_is : (mods : List Modifier) → IsShapedMember (a_field mods)
field_is mods = (refl, refl, (tt, tt))

abbrev semi : List Kind → List Kind
semi z = kind.Sym y.Semicolon ∷ z

abbrev braces : List Kind → List Kind
braces z = kind.Sym y.OpenBrace ∷ kind.Sym y.CloseBrace ∷ z

abbrev no_block : List Kind → List Kind
no_block z = kind.Sym y.OpenParen ∷ kind.Sym y.CloseParen ∷ semi z

module _ (room : ℕ) (nested : List Modifier → Parser d.TypeDecl) (growing : GrowsDecl room nested) where
  abbrev Goal : List Kind → Fault × List Kind → Type 0
  Goal ts stop = Member (suc room) ts stop

  block_body_grow : (ts : List Kind) (stop : Fault × List Kind) → reader.method_body room nested ts ≡ Err stop → Growing (Low (λ (o : Option s.Block). IfSome o IsShapedBlock) (λ o. option_map_or block_depth o 0)) write_body room ts stop
  block_body_grow ts stop h =
      at_symbol y.Semicolon ts (λ ts. Growing (Low (λ (o : Option s.Block). IfSome o IsShapedBlock) (λ o. option_map_or block_depth o 0)) write_body room ts stop) h
      (λ us g. absurd (ok_err g))
      (λ f g. part leading_nothing (λ b. Some b) (λ z. z) (λ b z. refl) (λ b is. is) (λ b l. l) (body_grow_at room ts stop (last g (λ b us next. ok_err next))))

  method_grow : (mods : List Modifier) (gives : ResultType) (n : Text) (ts : List Kind) (stop : Fault × List Kind) → IsShapedResult gives → reader.method room nested mods gives n ts ≡ Err stop
      → Goal (write_modifiers mods (write_result gives (kind.Ident n ∷ ts))) stop
  unfolding reader.method
  method_grow mods gives n ts stop is h =
      let front = leading_then (leading_modifiers mods) (leading_then (leading_result gives) (leading_one (kind.Ident n))) in
      on h (λ e. part front (λ ps. d.Method mods gives n ps [] None) semi (λ ps z. refl) (λ ps is_ps. (is, is_ps, tt, tt)) (λ ps l. suc_le 0 room (zero_le room)) (params_grow room ts stop e))
      (λ ps us e next.
      let params = params_sound ts (ps, us) e in
      let behind = leading_then front (leading_params ps) in
      subst (λ ts. Goal (write_modifiers mods (write_result gives (kind.Ident n ∷ ts))) stop) (sym params.1)
      (on next (λ e. part behind (λ ns. d.Method mods gives n ps ns None) semi (λ ns z. refl) (λ ns is_ns. (is, params.0, is_ns, tt)) (λ ns l. suc_le 0 room (zero_le room)) (names_grow room k.Throws us stop e))
      (λ ns vs e next.
      let thrown = names_after_sound k.Throws us (ns, vs) e in
      subst (λ us. Goal (write_modifiers mods (write_result gives (kind.Ident n ∷ write_params ps us))) stop) (sym thrown.written)
      (part (leading_then behind (leading_after_word k.Throws ns)) (λ b. d.Method mods gives n ps ns b) (λ z. z) (λ b z. refl) (λ b is_b. (is, params.0, thrown.are, is_b)) (λ b l. suc_le (option_map_or block_depth b 0) room l)
      (block_body_grow vs stop (last next (λ b us next. ok_err next)))))))

  constructor_grow : (mods : List Modifier) (n : Text) (ts : List Kind) (stop : Fault × List Kind) → reader.constructor room nested mods n ts ≡ Err stop → Goal (write_modifiers mods (kind.Ident n ∷ ts)) stop
  unfolding reader.constructor
  constructor_grow mods n ts stop h =
      let front = leading_then (leading_modifiers mods) (leading_one (kind.Ident n)) in
      on h (λ e. part front (λ ps. d.Constructor mods n ps [] empty) braces (λ ps z. refl) (λ ps is_ps. (is_ps, tt, tt)) (λ ps l. omega arith) (params_grow room ts stop e))
      (λ ps us e next.
      let params = params_sound ts (ps, us) e in
      let behind = leading_then front (leading_params ps) in
      subst (λ ts. Goal (write_modifiers mods (kind.Ident n ∷ ts)) stop) (sym params.1)
      (on next (λ e. part behind (λ ns. d.Constructor mods n ps ns empty) braces (λ ns z. refl) (λ ns is_ns. (params.0, is_ns, tt)) (λ ns l. omega arith) (names_grow room k.Throws us stop e))
      (λ ns vs e next.
      let thrown = names_after_sound k.Throws us (ns, vs) e in
      subst (λ us. Goal (write_modifiers mods (kind.Ident n ∷ write_params ps us)) stop) (sym thrown.written)
      (part (leading_then behind (leading_after_word k.Throws ns)) (λ b. d.Constructor mods n ps ns b) (λ z. z) (λ b z. refl) (λ b is_b. (params.0, thrown.are, is_b)) (λ b l. omega arith) (ctor_grow room vs stop (last next (λ b us next. ok_err next)))))))

  field_grow : (mods : List Modifier) (t : TypeUse) (n : Text) (ts : List Kind) (stop : Fault × List Kind) → IsTypeUse t → reader.field room nested mods t n ts ≡ Err stop → Goal (write_modifiers mods (write_type t (kind.Ident n ∷ ts))) stop
  unfolding reader.field
  field_grow mods t n ts stop is h =
      let front = leading_then (leading_modifiers mods) (leading_type t) in
      on h (λ e. part front (λ ds. d.Field mods t ds) semi (λ ds z. refl) (λ ds are. (is, are.0, are.1)) (λ ds l. omega arith) (declarators_after_grow room n ts stop e))
      (λ ds us e next.
      let found = declarators_after_sound room n ts (ds, us) e in
      let low = found.are.2 in
      subst (λ us. Goal (write_modifiers mods (write_type t us)) stop) (sym found.written)
      (gone (ends_with y.Semicolon us next (λ u us next. ok_err next)) (leading_then front (leading_declarators ds)) (d.Field mods t ds) semi (λ z. refl) (is, found.are.0, found.are.1) (omega arith)))

  typed_grow : (mods : List Modifier) (t : TypeUse) (ts : List Kind) (stop : Fault × List Kind) → IsTypeUse t → reader.typed room nested mods t ts ≡ Err stop → Goal (write_modifiers mods (write_type t ts)) stop
  unfolding reader.typed
  typed_grow mods t ts stop is h =
      ident_on ts (λ ts. Goal (write_modifiers mods (write_type t ts)) stop) h
      (λ g. gone g (leading_then (leading_modifiers mods) (leading_type t)) (d.Field mods t (variable ∷ [])) (λ z. kind.Ident [] ∷ semi z) (λ z. refl) (is, refl, (tt, tt)) (omega arith))
      (λ n us next. choose (is_at y.OpenParen us) next (λ t_ g. method_grow mods (outcome.Of t) n us stop is g) (λ f g. field_grow mods t n us stop is g))

  identified_grow : (mods : List Modifier) (head : Text) (ts : List Kind) (stop : Fault × List Kind) → reader.identified room nested mods head ts ≡ Err stop → Goal (write_modifiers mods (kind.Ident head ∷ ts)) stop
  unfolding reader.identified
  identified_grow mods head ts stop h =
      choose (is_at y.OpenParen ts) h (λ t g. constructor_grow mods head ts stop g)
      (λ f g. on g
      (λ e. part (leading_modifiers mods) (λ n. d.Field mods (type_of (base.Named n) 0) (variable ∷ [])) (λ z. kind.Ident [] ∷ semi z) (λ n z. refl) (λ n is. (is, refl, (tt, tt))) (λ n l. omega arith)
      (seen {Shape = IsName} {depth = flat} room (kind.Ident head ∷ ts) stop (λ r n is. (is, omega arith)) (name_after_grows room head ts stop e)))
      (λ n us e next.
      let found = name_sound (kind.Ident head ∷ ts) (n, us) e in
      subst (λ ts. Goal (write_modifiers mods ts) stop) (sym found.1)
      (on next (λ e. pairs_gone mods n found.0 us stop e)
      (λ pairs vs e next. subst (λ us. Goal (write_modifiers mods (write_name n us)) stop) (sym (dims_sound us (pairs, vs) e).0) (typed_grow mods (type_of (base.Named n) pairs) vs stop found.0 next))))) where
        pairs_gone : (mods : List Modifier) (n : Name) → IsName n → (us : List Kind) (stop : Fault × List Kind) → dims us ≡ Err stop → Goal (write_modifiers mods (write_name n us)) stop
        pairs_gone mods n is us stop e =
            let s = dims_stop us stop e in
            subst (λ us. Goal (write_modifiers mods (write_name n us)) stop) (sym s.split)
            (gone s.here (leading_then (leading_modifiers mods) (leading_then (leading_name n) (leading_then (leading_brackets s.count) (leading_symbol y.OpenBracket)))) (d.Field mods (type_of (base.Named n) (suc s.count)) (variable ∷ []))
            (λ z. kind.Sym y.CloseBracket ∷ kind.Ident [] ∷ semi z) (λ z. ap (λ ts. write_modifiers mods (write_name n ts)) (brackets_more s.count (kind.Ident [] ∷ semi z))) (is, refl, (tt, tt)) (omega arith))

  init_grow : (b : Bool) (ts : List Kind) (stop : Fault × List Kind) → reader.initializer_block room nested b ts ≡ Err stop → Goal (write_if b (kind.Word k.Static) ts) stop
  init_grow b ts stop h = part (leading_if b (kind.Word k.Static)) (λ body. d.Init b body) (λ z. z) (λ body z. refl) (λ body is. is) (λ body l. omega arith) (body_grow_at room ts stop (last h (λ b us next. ok_err next)))

  field_gone : (mods : List Modifier) {ts : List Kind} {stop : Fault × List Kind} → (NoTree, ts) ≡ stop → Goal (write_modifiers mods ts) stop
  field_gone mods e = gone e (leading_modifiers mods) (a_field mods) (λ z. kind.Ident [] ∷ kind.Ident [] ∷ semi z) (λ z. refl) (field_is mods) (omega arith)

  braced_grow : (mods : List Modifier) (ts : List Kind) (stop : Fault × List Kind) → reader.braced room nested mods ts ≡ Err stop → Goal (write_modifiers mods ts) stop
  braced_grow [] ts stop h = init_grow false ts stop h
  braced_grow (m ∷ mods) ts stop h =
      choose (reader.is_static room nested (m ∷ mods)) h (λ t g. subst (λ mods. Goal (write_modifiers mods ts) stop) (sym (static_is room nested (m ∷ mods) t)) (init_grow true ts stop g)) (λ f g. field_gone (m ∷ mods) (err_is g))

  void_grow : (mods : List Modifier) (ts : List Kind) (stop : Fault × List Kind) → and_then (identifier ts) (reader.method room nested mods outcome.Void) ≡ Err stop → Goal (write_modifiers mods (kind.Word k.Void ∷ ts)) stop
  void_grow mods ts stop h =
      ident_on ts (λ ts. Goal (write_modifiers mods (kind.Word k.Void ∷ ts)) stop) h
      (λ g. gone g (leading_then (leading_modifiers mods) (leading_word k.Void)) (d.Method mods outcome.Void [] [] [] None) (λ z. kind.Ident [] ∷ no_block z) (λ z. refl) (tt, tt, tt, tt) (suc_le 0 room (zero_le room)))
      (λ n us next. method_grow mods outcome.Void n us stop tt next)

  member_type_grow : (mods : List Modifier) (o : Option Primitive) (token : Kind) (ts : List Kind) (stop : Fault × List Kind) → reader.member_type room nested mods o token ts ≡ Err stop → Goal (write_modifiers mods ts) stop
  member_type_grow mods None token ts stop h = field_gone mods (err_is h)
  member_type_grow mods (Some p) token ts stop h =
      on h
      (λ e. part (leading_modifiers mods) (λ t. d.Field mods t (variable ∷ [])) (λ z. kind.Ident [] ∷ semi z) (λ t z. refl) (λ t is. (is, refl, (tt, tt))) (λ t l. omega arith)
      (seen {Shape = IsTypeUse} {depth = flat} room ts stop (λ r t is. (is, omega arith)) (type_grows room ts stop e)))
      (λ t us e next.
      let found = type_sound ts (t, us) e in
      subst (λ ts. Goal (write_modifiers mods ts) stop) (sym found.written) (typed_grow mods t us stop found.is next))

  -- a declaration of a type, one level below; here the token is taken for one
  nested_grow : (mods : List Modifier) (token : Kind) (ts : List Kind) (stop : Fault × List Kind) (tall : d.TypeDecl) (past : List Kind → List Kind) → ((z : List Kind) → write_decl tall z ≡ write_modifiers mods (token ∷ past z)) → IsShapedDecl tall
      → reader.nested_decl room nested mods (token ∷ ts) ≡ Err stop → Goal (write_modifiers mods (token ∷ ts)) stop
  nested_grow mods token ts stop tall past spelled is h =
      forces room 1 token ts h
      (λ f e. deeps e (leading_modifiers mods) (a_field mods) (λ z. kind.Ident [] ∷ kind.Ident [] ∷ semi z) (λ z. refl) (field_is mods) (omega arith) (d.Nested tall) past spelled is)
      (λ up g. part leading_nothing (λ t. d.Nested t) (λ z. z) (λ t z. refl) (λ t is. is) (λ t l. omega arith) (growing.grow up mods (token ∷ ts) stop (last g (λ t us next. ok_err next))))

  after_grow : (mods : List Modifier) (ts : List Kind) (stop : Fault × List Kind) → reader.after_modifiers room nested mods ts ≡ Err stop → Goal (write_modifiers mods ts) stop
  after_grow mods [] stop h = field_gone mods (err_is h)
  after_grow mods (kind.Sym y.OpenBrace ∷ ts) stop h = braced_grow mods (kind.Sym y.OpenBrace ∷ ts) stop h
  after_grow [] (kind.Sym y.Semicolon ∷ ts) stop h = nested_grow [] (kind.Sym y.Semicolon) ts stop d.Empty (λ z. z) (λ z. refl) tt h
  after_grow (m ∷ mods) (kind.Sym y.Semicolon ∷ ts) stop h = field_gone (m ∷ mods) (err_is h)
  after_grow mods (kind.Word k.Class ∷ ts) stop h =
      nested_grow mods (kind.Word k.Class) ts stop (d.Class mods [] None [] d.no_members) (λ z. kind.Ident [] ∷ braces z) (λ z. refl) (tt, tt, tt) h
  after_grow mods (kind.Word k.Interface ∷ ts) stop h =
      nested_grow mods (kind.Word k.Interface) ts stop (d.Interface mods [] [] d.no_members) (λ z. kind.Ident [] ∷ braces z) (λ z. refl) (tt, tt) h
  after_grow mods (kind.Word k.Void ∷ ts) stop h = void_grow mods ts stop h
  after_grow mods (kind.Ident head ∷ ts) stop h = identified_grow mods head ts stop h
  after_grow mods (token ∷ ts) stop h = member_type_grow mods (primitive_kind token) token (token ∷ ts) stop h

  member_of_grow : (ts : List Kind) (stop : Fault × List Kind) → reader.member_of room nested ts ≡ Err stop → Goal ts stop
  unfolding reader.member_of
  member_of_grow ts stop h =
      on h (λ e. absurd (modifiers_ok ts stop e)) (λ mods us e next. let found = modifiers_sound ts (mods, us) e in subst (λ ts. Goal ts stop) (sym found.written) (after_grow mods us stop next))

-- ---- what begins a member

record MemberStarter (token : Kind) : Type 0 where
  tree : d.Member
  is : IsShapedMember tree
  more : List Kind → List Kind
  spelled : (z : List Kind) → write_member tree z ≡ token ∷ more z

primitive_field : (p : Primitive) → MemberStarter (kind.Word (primitive_word p))
primitive_field p = record { tree = d.Field [] (type_of (base.Primitive p) 0) (variable ∷ []); is = (tt, refl, (tt, tt)); more = λ z. kind.Ident [] ∷ semi z; spelled = λ z. refl }

modified_field : (m : Modifier) → MemberStarter (kind.Word (modifier_word m))
modified_field m = record { tree = a_field (m ∷ []); is = field_is (m ∷ []); more = λ z. kind.Ident [] ∷ kind.Ident [] ∷ semi z; spelled = λ z. refl }

word_starter : (w : Keyword) → begins_member (kind.Word w) ≡ true → MemberStarter (kind.Word w)
word_starter k.Void h = record { tree = d.Method [] outcome.Void [] [] [] None; is = (tt, tt, tt, tt); more = λ z. kind.Ident [] ∷ no_block z; spelled = λ z. refl }
word_starter k.Class h = record { tree = d.Nested (d.Class [] [] None [] d.no_members); is = (tt, tt, tt); more = λ z. kind.Ident [] ∷ braces z; spelled = λ z. refl }
word_starter k.Interface h = record { tree = d.Nested (d.Interface [] [] [] d.no_members); is = (tt, tt); more = λ z. kind.Ident [] ∷ braces z; spelled = λ z. refl }
word_starter k.Boolean h = primitive_field primitive.Boolean
word_starter k.Byte h = primitive_field primitive.Byte
word_starter k.Short h = primitive_field primitive.Short
word_starter k.Char h = primitive_field primitive.Char
word_starter k.Int h = primitive_field primitive.Int
word_starter k.Long h = primitive_field primitive.Long
word_starter k.Public h = modified_field modifier.Public
word_starter k.Protected h = modified_field modifier.Protected
word_starter k.Private h = modified_field modifier.Private
word_starter k.Abstract h = modified_field modifier.Abstract
word_starter k.Static h = modified_field modifier.Static
word_starter k.Final h = modified_field modifier.Final
word_starter k.Native h = modified_field modifier.Native
word_starter w h = absurd (cc)

member_starter : (token : Kind) → starts_member (Some token) ≡ true → MemberStarter token
member_starter (kind.Sym y.OpenBrace) h = record { tree = d.Init false empty; is = tt; more = λ z. kind.Sym y.CloseBrace ∷ z; spelled = λ z. refl }
member_starter (kind.Sym y.Semicolon) h = record { tree = d.Nested d.Empty; is = tt; more = λ z. z; spelled = λ z. refl }
member_starter (kind.Ident n) h = record { tree = d.Field [] (type_of (base.Named (name_of (n ∷ []))) 0) (variable ∷ []); is = (refl, refl, (tt, tt)); more = λ z. kind.Ident [] ∷ semi z; spelled = λ z. refl }
member_starter (kind.Word w) h = word_starter w h
member_starter token h = absurd (cc)

-- ---- declarations of types

module _ (room : ℕ) (inner : Parser d.Member) (reads : ReadsMember room inner) (growing : GrowsMember room inner) where
  abbrev Listed : List Kind → Fault × List Kind → Type 0
  Listed ts stop = Growing (Low (AllByRecursion IsShapedMember) (deepest member_depth)) (write_many write_member) room ts stop

  no_member : (us : List Kind) (stop : Fault × List Kind) → starts_member (first us) ≡ true → NoLevel starts_member us stop → Listed us stop
  no_member us stop starts (Refused f e) = absurd (true≢false (sym starts ∙ f))
  no_member [] stop starts (Deep f e) = absurd (cc)
  no_member (token ∷ us) stop starts (Deep f e) =
      let m = member_starter token starts in deeps e leading_nothing [] (λ z. z) (λ z. refl) tt (omega arith) (m.tree ∷ []) m.more m.spelled (m.is, tt)

  one_member : (us : List Kind) (stop : Fault × List Kind) → starts_member (first us) ≡ true → inner us ≡ Err stop → Listed us stop
  one_member us stop starts e =
      elim (cases_lt 0 room) [
        | inl up ↦ one_of {Shape = IsShapedMember} (λ m is. (is, tt)) (growing.grow up us stop e)
        | inr none ↦ no_member us stop starts (growing.none none us stop e)
      ]

  as_members : (all : List d.Member) → AllByRecursion IsShapedMember all → AreShapedMembers (d.members all)
  as_members [] h = tt
  as_members (m ∷ all) h = (h.0, as_members all h.1)

  low_members : (all : List d.Member) → deepest member_depth all ≤ room → members_depth (d.members all) ≤ room
  low_members [] l = omega arith
  low_members (m ∷ all) l = let n = low_members all (omega arith) in omega arith

  abbrev write_braces : d.Members → List Kind → List Kind
  write_braces all z = kind.Sym y.OpenBrace ∷ write_members all (kind.Sym y.CloseBrace ∷ z)

  abbrev Members : List Kind → Fault × List Kind → Type 0
  Members ts stop = Growing (Low AreShapedMembers members_depth) write_braces room ts stop

  members_grow : (ts : List Kind) (stop : Fault × List Kind) → reader.members room inner ts ≡ Err stop → Members ts stop
  members_grow ts stop h =
      symbol_on y.OpenBrace ts (λ ts. Members ts stop) h
      (λ g. gone g leading_nothing d.no_members (λ z. braces z) (λ z. refl) tt (omega arith))
      (λ u us next. on next
      (λ e. part (leading_symbol y.OpenBrace) d.members (λ z. kind.Sym y.CloseBrace ∷ z) (λ all z. ap (λ ts. kind.Sym y.OpenBrace ∷ ts) (sym (members_many all (kind.Sym y.CloseBrace ∷ z)))) as_members low_members
      (many_grow member_depth starts_member inner refl (units.Fits room) write_member (units.item room inner reads) (units.member_longer room) room leading_member (shaped_append (λ m is. is.0)) (λ all are. (asunder IsShapedMember member_depth room all are).1) us stop e
      (λ us starts e. one_member us stop starts e)))
      (λ all vs e next.
      let found = list_sound starts_member inner refl (units.Fits room) write_member (units.item room inner reads) (units.member_longer room) us (all, vs) e in
      let both = asunder IsShapedMember member_depth room all found.are in
      subst (λ us. Members (kind.Sym y.OpenBrace ∷ us) stop) (sym (found.written ∙ members_many all vs))
      (gone (ends_with y.CloseBrace vs next (λ u us next. ok_err next)) (leading_then (leading_symbol y.OpenBrace) (leading_members (d.members all))) (d.members all) (λ z. kind.Sym y.CloseBrace ∷ z) (λ z. refl) (as_members all both.0) (low_members all both.1))))

  abbrev Type_goal : List Kind → Fault × List Kind → Type 0
  Type_goal ts stop = Declared (suc room) ts stop

  class_grow : (mods : List Modifier) (ts : List Kind) (stop : Fault × List Kind) → reader.class_decl room inner mods ts ≡ Err stop → Type_goal (write_modifiers mods (kind.Word k.Class ∷ ts)) stop
  unfolding reader.class_decl
  class_grow mods ts stop h =
      let front = leading_then (leading_modifiers mods) (leading_word k.Class) in
      ident_on ts (λ ts. Type_goal (write_modifiers mods (kind.Word k.Class ∷ ts)) stop) h
      (λ g. gone g front (d.Class mods [] None [] d.no_members) (λ z. kind.Ident [] ∷ braces z) (λ z. refl) (tt, tt, tt) (omega arith))
      (λ n us next.
      let named = leading_then front (leading_one (kind.Ident n)) in
      on next (λ e. part named (λ p. d.Class mods n p [] d.no_members) braces (λ p z. refl) (λ p is. (is, tt, tt)) (λ p l. omega arith) (parent_grow room us stop e))
      (λ p vs e next.
      let above = parent_sound us (p, vs) e in
      let below = leading_then named (leading_parent p) in
      subst (λ us. Type_goal (write_modifiers mods (kind.Word k.Class ∷ kind.Ident n ∷ us)) stop) (sym above.1)
      (on next (λ e. part below (λ ns. d.Class mods n p ns d.no_members) braces (λ ns z. refl) (λ ns is. (above.0, is, tt)) (λ ns l. omega arith) (names_grow room k.Implements vs stop e))
      (λ ns ws e next.
      let faces = names_after_sound k.Implements vs (ns, ws) e in
      subst (λ vs. Type_goal (write_modifiers mods (kind.Word k.Class ∷ kind.Ident n ∷ write_parent p vs)) stop) (sym faces.written)
      (part (leading_then below (leading_after_word k.Implements ns)) (λ all. d.Class mods n p ns all) (λ z. z) (λ all z. refl) (λ all is. (above.0, faces.are, is)) (λ all l. omega arith) (members_grow ws stop (last next (λ all us next. ok_err next))))))))

  interface_grow : (mods : List Modifier) (ts : List Kind) (stop : Fault × List Kind) → reader.interface_decl room inner mods ts ≡ Err stop → Type_goal (write_modifiers mods (kind.Word k.Interface ∷ ts)) stop
  unfolding reader.interface_decl
  interface_grow mods ts stop h =
      let front = leading_then (leading_modifiers mods) (leading_word k.Interface) in
      ident_on ts (λ ts. Type_goal (write_modifiers mods (kind.Word k.Interface ∷ ts)) stop) h
      (λ g. gone g front (d.Interface mods [] [] d.no_members) (λ z. kind.Ident [] ∷ braces z) (λ z. refl) (tt, tt) (omega arith))
      (λ n us next.
      let named = leading_then front (leading_one (kind.Ident n)) in
      on next (λ e. part named (λ ns. d.Interface mods n ns d.no_members) braces (λ ns z. refl) (λ ns is. (is, tt)) (λ ns l. omega arith) (names_grow room k.Extends us stop e))
      (λ ns ws e next.
      let faces = names_after_sound k.Extends us (ns, ws) e in
      subst (λ vs. Type_goal (write_modifiers mods (kind.Word k.Interface ∷ kind.Ident n ∷ vs)) stop) (sym faces.written)
      (part (leading_then named (leading_after_word k.Extends ns)) (λ all. d.Interface mods n ns all) (λ z. z) (λ all z. refl) (λ all is. (faces.are, is)) (λ all l. omega arith) (members_grow ws stop (last next (λ all us next. ok_err next))))))

  -- what may stand behind any modifiers
  decl_gone : (mods : List Modifier) {ts : List Kind} {stop : Fault × List Kind} → (NoTree, ts) ≡ stop → Type_goal (write_modifiers mods ts) stop
  decl_gone mods e = gone e (leading_modifiers mods) (d.Class mods [] None [] d.no_members) (λ z. kind.Word k.Class ∷ kind.Ident [] ∷ braces z) (λ z. refl) (tt, tt, tt) (omega arith)

  type_decl_grow : (mods : List Modifier) (ts : List Kind) (stop : Fault × List Kind) → reader.type_decl room inner mods ts ≡ Err stop → Type_goal (write_modifiers mods ts) stop
  unfolding reader.type_decl
  type_decl_grow mods [] stop h = decl_gone mods (err_is h)
  type_decl_grow mods (kind.Word k.Class ∷ ts) stop h = class_grow mods ts stop h
  type_decl_grow mods (kind.Word k.Interface ∷ ts) stop h = interface_grow mods ts stop h
  type_decl_grow [] (kind.Sym y.Semicolon ∷ ts) stop h = absurd (ok_err h)
  type_decl_grow [] (token ∷ ts) stop h = decl_gone [] (err_is h)
  type_decl_grow (m ∷ mods) (token ∷ ts) stop h = decl_gone (m ∷ mods) (err_is h)

-- ---- of any number of levels

pub record GrowsBoth (room : ℕ) : Type 0 where
  pub member : GrowsMember room (reader.member room)
  pub decl : GrowsDecl room (reader.decl room)

pub both_grow : (room : ℕ) → GrowsBoth room
unfolding reader.member reader.decl
both_grow zero = record {
  member = record {
    grow = λ some. absurd (omega arith);
    none = λ none ts stop h. no_level_is starts_member ts stop h;
  };
  decl = record {
    grow = λ some. absurd (omega arith);
  };
}
both_grow (suc room) =
    let before = both_grow room in
    let read = both_read room in
    record {
      member = record {
        grow = λ some ts stop h. member_of_grow room (reader.decl room) before.decl ts stop h;
        none = λ none. absurd (omega arith);
      };
      decl = record {
        grow = λ some mods ts stop h. type_decl_grow room (reader.member room) read.member before.member mods ts stop h;
      };
    }

pub decl_grow : (room : ℕ) → 1 ≤ room → (ts : List Kind) (stop : Fault × List Kind) → (reader.modifiers >>= reader.decl room) ts ≡ Err stop → Declared room ts stop
decl_grow room some ts stop h =
    on h (λ e. absurd (modifiers_ok ts stop e)) (λ mods us e next. let found = modifiers_sound ts (mods, us) e in subst (λ ts. Declared room ts stop) (sym found.written) ((both_grow room).decl.grow some mods us stop next))

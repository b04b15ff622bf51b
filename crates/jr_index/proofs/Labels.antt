-- The labels of each tree, as they open and close.
use Rattle.std.proofs.Common.{◌≡◌, ℕ, zero, suc, ◌+◌, Bool, true, false, List, [], ◌∷◌, ◌++◌, length, Option, Some, None, nat_lt, refl, sym, ap, ◌∙◌, arith, append_assoc, append-nil}
use Rattle.std.specs.Prelude.{slice_index_or, is_some, if◌then◌else◌}
use Rattle.std.proofs.lemmas.Bool.{lt-ltb, le-ltb}
use Rattle.jr_base.specs.declared.text.Text.{Text}
use Rattle.jr_tree.specs.declared.tree.Name.{Name}
use Rattle.jr_tree.specs.declared.tree.Base.{Base}
use Rattle.jr_tree.specs.declared.tree.Base.TheVariants as base
use Rattle.jr_tree.specs.declared.tree.TypeUse.{TypeUse}
use Rattle.jr_tree.specs.declared.tree.Param.{Param}
use Rattle.jr_tree.specs.declared.tree.Modifier.{Modifier}
use Rattle.jr_tree.specs.declared.tree.ResultType.{ResultType}
use Rattle.jr_tree.specs.declared.tree.ResultType.TheVariants as outcome
use Rattle.jr_tree.specs.declared.tree.PackageDecl.{PackageDecl}
use Rattle.jr_tree.specs.declared.tree.Import.{Import}
use Rattle.jr_tree.specs.declared.tree.Import.TheVariants as import
use Rattle.jr_tree.specs.declared.tree.Unit as declared_unit
use Rattle.jr_tree.specs.Mirror.Exprs as x
use Rattle.jr_tree.specs.Mirror.Stmts as s
use Rattle.jr_tree.specs.Mirror.Decls as d
use Rattle.jr_tree.specs.declared.label.Label.{Label}
use Rattle.jr_tree.specs.declared.label.Label.TheVariants as is
use Rattle.jr_tree.specs.declared.label.NameKind.{NameKind}
use Rattle.jr_tree.specs.declared.label.NameKind.TheVariants as kind
use Rattle.jr_tree.specs.declared.label.NamePlace.{NamePlace}
use Rattle.jr_tree.specs.declared.label.NamePlace.TheVariants as place
use Rattle.jr_tree.specs.declared.label.ReceiverKind.TheVariants as on
use Rattle.jr_tree.specs.declared.label.ImportKind.TheVariants as importing
use Rattle.jr_tree.specs.Forest as f
use Rattle.jr_tree.specs.Forest.{Forest, none, more}
use Rattle.jr_tree.specs.Exprs as l
use Rattle.jr_tree.specs.Stmts as ls
use Rattle.jr_tree.specs.Decls as ld
use Rattle.jr_index.specs.Events as e
use Rattle.jr_index.specs.Events.{Open, Close, Pass, Own, OwnLast, Declare, Restart, Events, named, opens, closes, name_label}
use Rattle.jr_tree.specs.Rows.{program_rows}
use Rattle.jr_index.specs.Building.{State, built, start}
use Rattle.jr_index.specs.Marking as marking
use Rattle.jr_index.proofs.Forests.{events_of, built_forest, erase, erase_append, built_erased, run_rows}

-- ---- forests that are put together

-- the forest is the labels of these, and then the rest
pub record Writes (one : Forest) (a : Events) (rest : Forest) : Type 0 where
  pub is : events_of one ≡ erase a ++ events_of rest

pub record Whole (one : Forest) (a : Events) : Type 0 where
  pub is : events_of one ≡ erase a

nothing : Whole none []
nothing = record { is = refl }

same : (rest : Forest) → Writes rest [] rest
same rest = record { is = refl }

-- tokens before it, and behind it
ahead : {one rest : Forest} {a : Events} (b : Events) → erase b ≡ [] → Writes one a rest → Writes one (b ++ a) rest
ahead {one} {rest} {a} b e h = record { is = h.is ∙ ap (λ all. (all ++ erase a) ++ events_of rest) (sym e) ∙ ap (λ all. all ++ events_of rest) (sym (erase_append b a)) }

behind : {one rest : Forest} {a : Events} (b : Events) → erase b ≡ [] → Writes one a rest → Writes one (a ++ b) rest
behind {one} {rest} {a} b e h = record {
  is =
      h.is ∙ ap (λ all. all ++ events_of rest) (sym (append-nil (erase a))) ∙ ap (λ all. (erase a ++ all) ++ events_of rest) (sym e)
      ∙ ap (λ all. all ++ events_of rest) (sym (erase_append a b));
}

-- one token before it, and one before and behind it
token : {one rest : Forest} {a : Events} → Writes one a rest → Writes one (Pass 1 ∷ a) rest
token h = ahead (Pass 1 ∷ []) refl h

parens : {one rest : Forest} {a : Events} → Writes one a rest → Writes one (Pass 1 ∷ a ++ Pass 1 ∷ []) rest
parens h = behind (Pass 1 ∷ []) refl (token h)

-- one tree before the rest
tree : (l : Label) (x : Text) {kids : Forest} {below : Events} (rest : Forest) → Whole kids below → Writes (more l x kids rest) (named l x below) rest
tree l x {kids} {below} rest h = record {
  is =
      ap (λ all. Open l x ∷ (all ++ Close ∷ events_of rest)) h.is ∙ ap (λ all. Open l x ∷ all) (sym (append_assoc (erase below) (Close ∷ []) (events_of rest)))
      ∙ ap (λ all. Open l x ∷ (all ++ events_of rest)) (sym (erase_append below (Close ∷ [])));
}

-- a label with nothing below it
bare : (l : Label) (x : Text) (b : Events) → erase b ≡ [] → (rest : Forest) → Writes (more l x none rest) (named l x b) rest
bare l x b e rest = record { is = ap (λ all. Open l x ∷ (all ++ Close ∷ events_of rest)) (sym e) ∙ ap (λ all. Open l x ∷ all) (sym (append_assoc (erase b) (Close ∷ []) (events_of rest))) ∙ ap (λ all. Open l x ∷ (all ++ events_of rest)) (sym (erase_append b (Close ∷ []))) }

-- what stands last, and what stands before others
last : {one : Forest} {a : Events} → Writes one a none → Whole one a
last {one} {a} h = record { is = h.is ∙ append-nil (erase a) }

next : {one other : Forest} {a b : Events} → Writes one a other → Whole other b → Whole one (a ++ b)
next {one} {other} {a} {b} h k = record { is = h.is ∙ ap (λ all. erase a ++ all) k.is ∙ sym (erase_append a b) }

before : {one other rest : Forest} {a b : Events} → Writes one a other → Writes other b rest → Writes one (a ++ b) rest
before {one} {other} {rest} {a} {b} h k = record {
  is =
      h.is ∙ ap (λ all. erase a ++ all) k.is ∙ sym (append_assoc (erase a) (erase b) (events_of rest)) ∙ ap (λ all. all ++ events_of rest) (sym (erase_append a b));
}

-- ---- names

-- so many labels close
abbrev ends : ℕ → Events
ends zero = []
ends (suc n) = Close ∷ ends n

ends_are : (dots n : ℕ) → erase (closes dots n) ≡ ends n
ends_are dots zero = refl
ends_are dots (suc n) = ap (λ all. Close ∷ all) (ends_are 1 n)

opens_are : (meant : NameKind) (at : NamePlace) (parts : List Text) (n : ℕ) → erase (opens meant at parts n) ≡ opens meant at parts n
opens_are meant at parts zero = refl
opens_are meant at parts (suc n) = ap (λ all. Open (name_label meant at (length parts) n) (slice_index_or parts n []) ∷ all) (opens_are meant at parts n)

module _ (meant : NameKind) (at : NamePlace) (parts : List Text) where
  shift : (n : ℕ) (rest : Events) → ends n ++ Close ∷ rest ≡ (Close ∷ ends n) ++ rest
  shift zero rest = refl
  shift (suc n) rest = ap (λ all. Close ∷ all) (shift n rest)

  -- the row of the identifier i ends behind those before it
  around : (i : ℕ) (l : Label) (x : Text) (rest : Events) (below : Events) → below ≡ opens meant at parts i ++ ends i → name_label meant at (length parts) i ≡ l → slice_index_or parts i [] ≡ x
      → Open l x ∷ (below ++ Close ∷ rest) ≡ (opens meant at parts (suc i) ++ ends (suc i)) ++ rest
  around i l x rest below h k m =
      ap (λ all. Open l x ∷ (all ++ Close ∷ rest)) h
      ∙ ap (λ all. Open l x ∷ all) (append_assoc (opens meant at parts i) (ends i) (Close ∷ rest) ∙ ap (λ all. opens meant at parts i ++ all) (shift i rest)
      ∙ sym (append_assoc (opens meant at parts i) (ends (suc i)) rest))
      ∙ ap (λ (a : Label). Open a x ∷ ((opens meant at parts i ++ ends (suc i)) ++ rest)) (sym k)
      ∙ ap (λ (b : Text). Open (name_label meant at (length parts) i) b ∷ ((opens meant at parts i ++ ends (suc i)) ++ rest)) (sym m)

  -- the identifiers from the number i on, behind those before it
  dotted_are : (next : Text) (ps : List Text) (i : ℕ) (before : Forest) (rest : Forest) → length parts ≡ i + suc (length ps)
      → ((j : ℕ) → slice_index_or parts (i + j) [] ≡ slice_index_or (next ∷ ps) j []) → events_of before ≡ opens meant at parts i ++ ends i
      → events_of (l.dotted meant at (next ∷ ps) (nat_lt 0 i) before rest) ≡ (opens meant at parts (length parts) ++ ends (length parts)) ++ events_of rest
  dotted_are next [] i before rest n same h =
      let whole : length parts ≡ suc i = omega arith in
      let is_last : nat_lt (suc i) (length parts) ≡ false = le-ltb (suc i) (length parts) (omega arith) in
      let here : slice_index_or parts i [] ≡ next = ap (λ k. slice_index_or parts k []) (omega arith) ∙ same 0 in
      around i (is.Name meant at (nat_lt 0 i)) next (events_of rest) (events_of before) h
      (ap (λ b. if b then is.Name (l.left_kind meant) place.Qualifier (nat_lt 0 i) else is.Name meant at (nat_lt 0 i)) is_last) here
      ∙ ap (λ k. (opens meant at parts k ++ ends k) ++ events_of rest) (sym whole)
  dotted_are next (second ∷ ps) i before rest n same h =
      let is_inner : nat_lt (suc i) (length parts) ≡ true = lt-ltb (suc i) (length parts) (omega arith) in
      let here : slice_index_or parts i [] ≡ next = ap (λ k. slice_index_or parts k []) (omega arith) ∙ same 0 in
      let one = is.Name (l.left_kind meant) place.Qualifier (nat_lt 0 i) in
      let front : events_of (more one next before none) ≡ opens meant at parts (suc i) ++ ends (suc i)
      = around i one next [] (events_of before) h (ap (λ b. if b then one else is.Name meant at (nat_lt 0 i)) is_inner) here
      ∙ append-nil (opens meant at parts (suc i) ++ ends (suc i)) in
      ap (λ b. events_of (l.dotted meant at (second ∷ ps) b (more one next before none) rest)) (sym (lt-ltb 0 (suc i) (omega arith)))
      ∙ dotted_are second ps (suc i) (more one next before none) rest (omega arith) (λ j. ap (λ k. slice_index_or parts k []) (omega arith) ∙ same (suc j)) front

name_is : (meant : NameKind) (at : NamePlace) (parts : List Text) (rest : Forest) → events_of (l.dotted meant at parts false none rest) ≡ (opens meant at parts (length parts) ++ ends (length parts)) ++ events_of rest
name_is meant at [] rest = refl
name_is meant at (first ∷ ps) rest = dotted_are meant at (first ∷ ps) first ps 0 none rest (omega arith) (λ j. ap (λ k. slice_index_or (first ∷ ps) k []) (omega arith)) refl

name_are : (meant : NameKind) (at : NamePlace) (n : Name) (rest : Forest) → Writes (l.name_labels meant at n rest) (e.name_events meant at n) rest
name_are meant at n rest =
    let parts = n.parts in
    let many = length parts in
    record {
      is =
          name_is meant at parts rest
          ∙ ap (λ all. all ++ events_of rest)
          (sym (erase_append (opens meant at parts many) (closes 0 many) ∙ ap (λ all. all ++ erase (closes 0 many)) (opens_are meant at parts many)
          ∙ ap (λ all. opens meant at parts many ++ all) (ends_are 0 many)));
    }

type_name_are : (n : Name) (rest : Forest) → Writes (l.type_name n rest) (e.type_name n) rest
type_name_are n rest = name_are kind.Type place.Other n rest

names_are : (at : NamePlace) (ns : List Name) (rest : Forest) → Writes (f.each (l.name_labels kind.Type at) ns rest) (e.names_events at ns) rest
names_are at [] rest = same rest
names_are at (n ∷ ns) rest = before (token (name_are kind.Type at n (f.each (l.name_labels kind.Type at) ns rest))) (names_are at ns rest)

-- ---- types

base_are : (b : Base) (rest : Forest) → Writes (l.base_labels b rest) (e.base_events b) rest
base_are (base.Primitive p) rest = token (same rest)
base_are (base.Named n) rest = type_name_are n rest

type_are : (ty : TypeUse) (rest : Forest) → Writes (l.type_labels ty rest) (e.type_events ty) rest
type_are ty rest = tree (is.TypeUse (l.primitive_of ty.base) ty.dims) [] rest (last (behind (e.brackets ty.dims) refl (base_are ty.base none)))

param_are : (p : Param) (rest : Forest) → Writes (ls.param_labels p rest) (e.param_events p) rest
param_are p rest = tree (is.Parameter p.is_final p.dims) p.name rest (last (behind (Own ∷ e.brackets p.dims) refl (ahead (e.if_there p.is_final ∷ []) refl (type_are p.ty none))))

params_are : (commas : ℕ) (ps : List Param) (rest : Forest) → Writes (f.each ls.param_labels ps rest) (e.params_events commas ps) rest
params_are commas [] rest = same rest
params_are commas (p ∷ ps) rest = before (ahead (Pass commas ∷ []) refl (param_are p (f.each ls.param_labels ps rest))) (params_are 1 ps rest)

-- ---- expressions

mutual
  pub expr_are : (a : x.Expr) (rest : Forest) → Writes (l.expr_labels a rest) (e.expr_events a) rest
  expr_are (x.Assign target op value) rest = tree (is.Assign op) [] rest (next (expr_are target (l.expr_labels value none)) (last (token (expr_are value none))))
  expr_are (x.Cond c a b) rest =
      tree is.Conditional [] rest
      (next (before (expr_are c (l.expr_labels a (l.expr_labels b none))) (token (expr_are a (l.expr_labels b none)))) (last (token (expr_are b none))))
  expr_are (x.Binary a op b) rest = tree (is.Binary op) [] rest (next (expr_are a (l.expr_labels b none)) (last (token (expr_are b none))))
  expr_are (x.IsA value ty) rest = tree is.IsA [] rest (next (expr_are value (l.type_labels ty none)) (last (token (type_are ty none))))
  expr_are (x.Unary op value) rest = tree (is.Unary op) [] rest (last (token (expr_are value none)))
  expr_are (x.Cast ty value) rest = tree is.Cast [] rest (next (token (type_are ty (l.expr_labels value none))) (last (token (expr_are value none))))
  expr_are (x.PreStep op value) rest = tree (is.PreStep op) [] rest (last (token (expr_are value none)))
  expr_are (x.PostStep value op) rest = tree (is.PostStep op) [] rest (last (behind (Pass 1 ∷ []) refl (expr_are value none)))
  expr_are (x.Lit token) rest = bare (is.Literal token) [] (Pass 1 ∷ []) refl rest
  expr_are (x.This None) rest = bare (is.This false) [] (Pass 1 ∷ []) refl rest
  expr_are (x.This (Some class)) rest = tree (is.This true) [] rest (last (behind (Pass 2 ∷ []) refl (type_name_are class none)))
  expr_are (x.Paren inner) rest = tree is.Paren [] rest (last (parens (expr_are inner none)))
  expr_are (x.NameExpr name) rest = name_are kind.Variable place.Expression name rest
  expr_are (x.Select object name) rest = tree is.Select name rest (last (behind (Pass 1 ∷ Own ∷ []) refl (expr_are object none)))
  expr_are (x.SuperSelect name) rest = bare is.SuperSelect name (Pass 2 ∷ Own ∷ []) refl rest
  expr_are (x.Index a at) rest =
      tree is.Index [] rest (last (behind (Pass 1 ∷ []) refl (before (expr_are a (l.expr_labels at none)) (token (expr_are at none)))))
  expr_are (x.Call x.no_receiver name args) rest = tree (is.Call on.Absent) name rest (last (ahead (Own ∷ []) refl (parens (exprs_are 0 args none))))
  expr_are (x.Call (x.a_receiver (x.Of object)) name args) rest =
      tree (is.Call on.Expression) name rest
      (next (behind (Pass 1 ∷ []) refl (expr_are object (l.exprs_labels args none))) (last (ahead (Own ∷ []) refl (parens (exprs_are 0 args none)))))
  expr_are (x.Call (x.a_receiver (x.OfName n)) name args) rest =
      tree (is.Call on.Name) name rest
      (next (behind (Pass 1 ∷ []) refl (name_are kind.Ambiguous place.Receiver n (l.exprs_labels args none))) (last (ahead (Own ∷ []) refl (parens (exprs_are 0 args none)))))
  expr_are (x.Call (x.a_receiver x.Super) name args) rest =
      tree (is.Call on.Super) name rest (last (ahead (Pass 1 ∷ Pass 1 ∷ Own ∷ []) refl (parens (exprs_are 0 args none))))
  expr_are (x.New class args) rest =
      tree is.New [] rest (next (token (type_name_are class (l.exprs_labels args none))) (last (ahead (OwnLast ∷ []) refl (parens (exprs_are 0 args none)))))
  expr_are (x.NewArray b lengths extra x.no_list) rest =
      tree (is.NewArray (l.primitive_of b) (l.count lengths) extra) [] rest
      (next (behind (e.brackets extra) refl (before (token (base_are b (l.exprs_labels lengths none))) (lengths_are lengths none))) nothing)
  expr_are (x.NewArray b lengths extra (x.a_list list)) rest =
      tree (is.NewArray (l.primitive_of b) (l.count lengths) extra) [] rest
      (next (behind (e.brackets extra) refl (before (token (base_are b (l.exprs_labels lengths (l.list_labels list none)))) (lengths_are lengths (l.list_labels list none))))
      (last (list_are list none)))

  pub exprs_are : (commas : ℕ) (all : x.Exprs) (rest : Forest) → Writes (l.exprs_labels all rest) (e.exprs_events commas all) rest
  exprs_are commas x.no_exprs rest = same rest
  exprs_are commas (x.more_exprs a all) rest = before (ahead (Pass commas ∷ []) refl (expr_are a (l.exprs_labels all rest))) (exprs_are 1 all rest)

  lengths_are : (all : x.Exprs) (rest : Forest) → Writes (l.exprs_labels all rest) (e.lengths_events all) rest
  lengths_are x.no_exprs rest = same rest
  lengths_are (x.more_exprs a all) rest = before (parens (expr_are a (l.exprs_labels all rest))) (lengths_are all rest)

  list_are : (list : x.InitList) (rest : Forest) → Writes (l.list_labels list rest) (e.list_events list) rest
  list_are (x.ListOf all is_open_ended) rest =
      tree is.List [] rest (last (behind (e.if_there is_open_ended ∷ Pass 1 ∷ []) refl (token (inits_are 0 all none))))

  pub init_are : (i : x.Init) (rest : Forest) → Writes (l.init_labels i rest) (e.init_events i) rest
  init_are (x.Value value) rest = tree is.Value [] rest (last (expr_are value none))
  init_are (x.Listed list) rest = list_are list rest

  inits_are : (commas : ℕ) (all : x.Inits) (rest : Forest) → Writes (l.inits_labels all rest) (e.inits_events commas all) rest
  inits_are commas x.no_inits rest = same rest
  inits_are commas (x.more_inits i all) rest = before (ahead (Pass commas ∷ []) refl (init_are i (l.inits_labels all rest))) (inits_are 1 all rest)

-- ---- parts of statements

any_init_are : (i : Option x.Init) (rest : Forest) → Writes (f.if_some l.init_labels i rest) (e.any_init_events i) rest
any_init_are None rest = same rest
any_init_are (Some i) rest = token (init_are i rest)

any_expr_are : (a : Option x.Expr) (rest : Forest) → Writes (f.if_some l.expr_labels a rest) (e.if_some e.expr_events a) rest
any_expr_are None rest = same rest
any_expr_are (Some a) rest = expr_are a rest

-- a name with its brackets and its initializer
declared_are : (dims : ℕ) (init : Option x.Init) → Whole (f.if_some l.init_labels init none) (Own ∷ e.brackets dims ++ e.any_init_events init)
declared_are dims init = last (ahead (Own ∷ e.brackets dims) refl (any_init_are init none))

local_are : (is_final : Bool) (v : s.Declarator) (rest : Forest) → Writes (ls.local_labels is_final v rest) (e.local_events is_final v) rest
local_are is_final (s.DeclaratorOf name dims init) rest = tree (is.Local is_final dims) name rest (declared_are dims init)

locals_are : (commas : ℕ) (is_final : Bool) (vs : List s.Declarator) (rest : Forest)
    → Writes (f.each (ls.local_labels is_final) vs rest) (e.locals_events commas is_final vs) rest
locals_are commas is_final [] rest = same rest
locals_are commas is_final (v ∷ vs) rest =
    before (ahead (Pass commas ∷ []) refl (local_are is_final v (f.each (ls.local_labels is_final) vs rest))) (locals_are 1 is_final vs rest)

any_for_are : (i : Option s.ForInit) (rest : Forest) → Writes (f.if_some ls.for_labels i rest) (e.if_some e.for_events i) rest
any_for_are None rest = same rest
any_for_are (Some (s.Locals is_final ty ds)) rest =
    tree is.ForLocals [] rest (next (ahead (e.if_there is_final ∷ []) refl (type_are ty (f.each (ls.local_labels is_final) ds none))) (last (locals_are 0 is_final ds none)))
any_for_are (Some (s.Exprs es)) rest = tree is.ForExprs [] rest (last (exprs_are 0 es none))

case_are : (c : s.SwitchLabel) (rest : Forest) → Writes (ls.case_labels c rest) (e.case_events c) rest
case_are (s.Case value) rest = tree is.Case [] rest (last (parens (expr_are value none)))
case_are s.Default rest = bare is.Default [] (Pass 2 ∷ []) refl rest

cases_are : (cs : List s.SwitchLabel) (rest : Forest) → Writes (f.each ls.case_labels cs rest) (e.cases_events cs) rest
cases_are [] rest = same rest
cases_are (c ∷ cs) rest = before (case_are c (f.each ls.case_labels cs rest)) (cases_are cs rest)

-- ---- statements

jump_are : (jump : Label) (label : Option Text) (rest : Forest) → Writes (more jump (ls.label_name label) none rest) (e.jump_events jump label) rest
jump_are jump None rest = bare jump [] (Pass 2 ∷ []) refl rest
jump_are jump (Some name) rest = bare jump name (Pass 1 ∷ Own ∷ Pass 1 ∷ []) refl rest

mutual
  stmt_are : (a : s.Stmt) (rest : Forest) → Writes (ls.stmt_labels a rest) (e.stmt_events a) rest
  stmt_are (s.Nest b) rest = tree is.Nest [] rest (last (block_are b none))
  stmt_are (s.Local is_final ty ds) rest =
      tree is.Locals [] rest
      (last (behind (Pass 1 ∷ []) refl (before (ahead (e.if_there is_final ∷ []) refl (type_are ty (f.each (ls.local_labels is_final) ds none))) (locals_are 0 is_final ds none))))
  stmt_are s.Skip rest = bare is.Skip [] (Pass 1 ∷ []) refl rest
  stmt_are (s.Do body c) rest =
      tree is.Do [] rest (last (behind (Pass 2 ∷ []) refl (before (token (stmt_are body (l.expr_labels c none))) (ahead (Pass 2 ∷ []) refl (expr_are c none)))))
  stmt_are (s.While c body) rest = tree is.While [] rest (next (ahead (Pass 2 ∷ []) refl (expr_are c (ls.stmt_labels body none))) (last (token (stmt_are body none))))
  stmt_are (s.If c a s.no_stmt) rest =
      tree is.If [] rest (next (before (ahead (Pass 2 ∷ []) refl (expr_are c (ls.stmt_labels a none))) (token (stmt_are a none))) nothing)
  stmt_are (s.If c a (s.a_stmt b)) rest =
      tree is.If [] rest
      (next (before (ahead (Pass 2 ∷ []) refl (expr_are c (ls.stmt_labels a (ls.stmt_labels b none)))) (token (stmt_are a (ls.stmt_labels b none)))) (last (token (stmt_are b none))))
  stmt_are (s.Eval value) rest = tree is.Eval [] rest (last (behind (Pass 1 ∷ []) refl (expr_are value none)))
  stmt_are (s.For first c update body) rest =
      tree (is.For (is_some first) (is_some c)) [] rest
      (next (before (before (ahead (Pass 2 ∷ []) refl (any_for_are first (f.if_some l.expr_labels c (l.exprs_labels update (ls.stmt_labels body none)))))
      (token (any_expr_are c (l.exprs_labels update (ls.stmt_labels body none)))))
      (token (exprs_are 0 update (ls.stmt_labels body none)))) (last (token (stmt_are body none))))
  stmt_are (s.Switch value gs) rest =
      tree is.Switch [] rest
      (last (behind (Pass 1 ∷ []) refl (before (ahead (Pass 2 ∷ []) refl (expr_are value (ls.groups_labels gs none))) (ahead (Pass 2 ∷ []) refl (groups_are gs none)))))
  stmt_are (s.Labeled label body) rest = tree is.Labeled label rest (last (ahead (Own ∷ Pass 1 ∷ []) refl (stmt_are body none)))
  stmt_are (s.Break label) rest = jump_are (is.Break (is_some label)) label rest
  stmt_are (s.Continue label) rest = jump_are (is.Continue (is_some label)) label rest
  stmt_are (s.Return value) rest = tree is.Return [] rest (last (parens (any_expr_are value none)))
  stmt_are (s.Throw value) rest = tree is.Throw [] rest (last (parens (expr_are value none)))
  stmt_are (s.Try body cs s.no_block) rest =
      tree (is.Try false) [] rest (next (before (token (block_are body (ls.catches_labels cs none))) (catches_are cs none)) nothing)
  stmt_are (s.Try body cs (s.a_block b)) rest =
      tree (is.Try true) [] rest
      (next (before (token (block_are body (ls.catches_labels cs (ls.block_labels b none)))) (catches_are cs (ls.block_labels b none))) (last (token (block_are b none))))
  stmt_are (s.CtorCall which args) rest =
      tree (is.ConstructorCall which) [] rest (last (behind (Pass 1 ∷ []) refl (ahead (Own ∷ []) refl (parens (exprs_are 0 args none)))))

  pub block_are : (b : s.Block) (rest : Forest) → Writes (ls.block_labels b rest) (e.block_events b) rest
  block_are (s.BlockOf all) rest = tree is.Block [] rest (last (parens (stmts_are all none)))

  stmts_are : (all : s.Stmts) (rest : Forest) → Writes (ls.stmts_labels all rest) (e.stmts_events all) rest
  stmts_are s.no_stmts rest = same rest
  stmts_are (s.more_stmts a all) rest = before (stmt_are a (ls.stmts_labels all rest)) (stmts_are all rest)

  groups_are : (gs : s.Groups) (rest : Forest) → Writes (ls.groups_labels gs rest) (e.groups_events gs) rest
  groups_are s.no_groups rest = same rest
  groups_are (s.more_groups g gs) rest = before (group_are g (ls.groups_labels gs rest)) (groups_are gs rest)

  group_are : (g : s.Group) (rest : Forest) → Writes (ls.group_labels g rest) (e.group_events g) rest
  group_are (s.GroupOf labels all) rest = tree is.Group [] rest (next (cases_are labels (ls.stmts_labels all none)) (last (stmts_are all none)))

  catches_are : (cs : s.Catches) (rest : Forest) → Writes (ls.catches_labels cs rest) (e.catches_events cs) rest
  catches_are s.no_catches rest = same rest
  catches_are (s.more_catches c cs) rest = before (catch_are c (ls.catches_labels cs rest)) (catches_are cs rest)

  catch_are : (c : s.Catch) (rest : Forest) → Writes (ls.catch_labels c rest) (e.catch_events c) rest
  catch_are (s.CatchOf p b) rest = tree is.Catch [] rest (next (ahead (Pass 2 ∷ []) refl (param_are p (ls.block_labels b none))) (last (token (block_are b none))))

-- ---- declarations

field_are : (mods : List Modifier) (v : s.Declarator) (rest : Forest) → Writes (ld.field_labels mods v rest) (e.field_events mods v) rest
field_are mods (s.DeclaratorOf name dims init) rest = tree (is.Field (ld.modifiers_of mods) dims) name rest (declared_are dims init)

fields_are : (commas : ℕ) (mods : List Modifier) (vs : List s.Declarator) (rest : Forest)
    → Writes (f.each (ld.field_labels mods) vs rest) (e.fields_events commas mods vs) rest
fields_are commas mods [] rest = same rest
fields_are commas mods (v ∷ vs) rest =
    before (ahead (Pass commas ∷ []) refl (field_are mods v (f.each (ld.field_labels mods) vs rest))) (fields_are 1 mods vs rest)

result_are : (r : ResultType) (rest : Forest) → Writes (ld.result_labels r rest) (e.result_events r) rest
result_are outcome.Void rest = token (same rest)
result_are (outcome.Of ty) rest = type_are ty rest

any_block_are : (b : Option s.Block) (rest : Forest) → Writes (f.if_some ls.block_labels b rest) (e.body_or_semicolon b) rest
any_block_are None rest = token (same rest)
any_block_are (Some b) rest = block_are b rest

call_are : (is_written : Bool) (rest : Forest) → Writes (ld.implicit_call is_written rest) (e.implicit_call is_written) rest
call_are true rest = same rest
call_are false rest = record { is = refl }

default_are : (is_written : Bool) (rest : Forest) → Writes (ld.default_constructor is_written rest) (e.default_constructor is_written) rest
default_are true rest = same rest
default_are false rest = record { is = refl }

superclass_are : (n : Option Name) (rest : Forest) → Writes (f.if_some (l.name_labels kind.Type place.Superclass) n rest) (e.superclass_events n) rest
superclass_are None rest = same rest
superclass_are (Some n) rest = token (name_are kind.Type place.Superclass n rest)

-- a type with its modifiers and names, from its body on
abbrev header : List Modifier → Events
header mods = Pass (length mods) ∷ Pass 1 ∷ Declare ∷ []

mutual
  member_are : (m : d.Member) (rest : Forest) → Writes (ld.member_labels m rest) (e.member_events m) rest
  member_are (d.Field mods ty ds) rest =
      tree (is.Fields (ld.modifiers_of mods)) [] rest
      (last (behind (Pass 1 ∷ []) refl (before (ahead (Pass (length mods) ∷ []) refl (type_are ty (f.each (ld.field_labels mods) ds none))) (fields_are 0 mods ds none))))
  member_are (d.Method mods gives name params thrown body) rest =
      tree (is.Method (ld.modifiers_of mods) (ld.is_void gives) (is_some body)) name rest
      (next (before (before (ahead (Pass (length mods) ∷ []) refl (result_are gives (f.each ls.param_labels params (f.each l.type_name thrown (f.if_some ls.block_labels body none)))))
      (ahead (Own ∷ Pass 1 ∷ []) refl (params_are 0 params (f.each l.type_name thrown (f.if_some ls.block_labels body none)))))
      (token (names_are place.Other thrown (f.if_some ls.block_labels body none)))) (last (any_block_are body none)))
  member_are (d.Constructor mods name params thrown body) rest =
      tree (is.Constructor (ld.modifiers_of mods)) name rest
      (next (before (before (ahead (Pass (length mods) ∷ Declare ∷ []) refl (call_are (ls.calls_first body) (f.each ls.param_labels params (f.each l.type_name thrown (ls.block_labels body none)))))
      (token (params_are 0 params (f.each l.type_name thrown (ls.block_labels body none)))))
      (token (names_are place.Other thrown (ls.block_labels body none)))) (last (block_are body none)))
  member_are (d.Init is_static body) rest = tree (is.Initializer is_static) [] rest (last (ahead (e.if_there is_static ∷ []) refl (block_are body none)))
  member_are (d.Nested decl) rest = decl_are true decl rest

  members_are : (all : d.Members) (rest : Forest) → Writes (ld.members_labels all rest) (e.members_events all) rest
  members_are d.no_members rest = same rest
  members_are (d.more_members m all) rest = before (member_are m (ld.members_labels all rest)) (members_are all rest)

  decl_are : (is_member : Bool) (t : d.TypeDecl) (rest : Forest) → Writes (ld.decl_labels is_member t rest) (e.decl_events is_member t) rest
  decl_are is_member (d.Class mods name parent faces body) rest =
      let inside = f.node is.Body (ld.default_constructor (ld.has_constructor body) (ld.members_labels body none)) none in
      tree (is.Class (ld.modifiers_of mods) is_member) name rest
      (next (before (ahead (header mods) refl (superclass_are parent (f.each (l.name_labels kind.Type place.Superinterface) faces inside)))
      (names_are place.Superinterface faces inside))
      (last (tree is.Body [] none
      (last (behind (Pass 1 ∷ []) refl (before (token (default_are (ld.has_constructor body) (ld.members_labels body none))) (members_are body none)))))))
  decl_are is_member (d.Interface mods name faces body) rest =
      tree (is.Interface (ld.modifiers_of mods) is_member) name rest
      (next (ahead (header mods) refl (names_are place.Superinterface faces (f.node is.Body (ld.members_labels body none) none)))
      (last (tree is.Body [] none (last (parens (members_are body none))))))
  decl_are is_member d.Empty rest = bare (is.EmptyDecl is_member) [] (Pass 1 ∷ []) refl rest

-- ---- units and programs

any_package_are : (p : Option PackageDecl) (rest : Forest) → Writes (f.if_some ld.package_labels p rest) (e.if_some e.package_events p) rest
any_package_are None rest = same rest
any_package_are (Some p) rest = tree is.Package [] rest (last (parens (name_are kind.Package place.Other p.name none)))

import_are : (i : Import) (rest : Forest) → Writes (ld.import_labels i rest) (e.import_events i) rest
import_are (import.Single n) rest = tree (is.Import importing.Single) [] rest (last (parens (type_name_are n none)))
import_are (import.OnDemand n) rest =
    tree (is.Import importing.OnDemand) [] rest (last (behind (Pass 3 ∷ []) refl (token (name_are kind.PackageOrType place.Other n none))))
import_are (import.StaticSingle n member) rest =
    tree (is.Import importing.StaticSingle) member rest (last (behind (Pass 1 ∷ Own ∷ Pass 1 ∷ []) refl (ahead (Pass 2 ∷ []) refl (type_name_are n none))))

imports_are : (all : List Import) (rest : Forest) → Writes (f.each ld.import_labels all rest) (e.imports_events all) rest
imports_are [] rest = same rest
imports_are (i ∷ all) rest = before (import_are i (f.each ld.import_labels all rest)) (imports_are all rest)

decls_are : (ts : List d.TypeDecl) (rest : Forest) → Writes (f.each (ld.decl_labels false) ts rest) (e.decls_events ts) rest
decls_are [] rest = same rest
decls_are (t ∷ ts) rest = before (decl_are false t (f.each (ld.decl_labels false) ts rest)) (decls_are ts rest)

unit_are : (u : d.CompilationUnit) (rest : Forest) → Writes (ld.unit_labels u rest) (e.unit_events u) rest
unit_are (d.UnitOf p imports types) rest =
    ahead (Restart ∷ []) refl
    (tree is.Unit [] rest (next (before (any_package_are p (f.each ld.import_labels imports (f.each (ld.decl_labels false) types none)))
    (imports_are imports (f.each (ld.decl_labels false) types none))) (last (decls_are types none))))

units_are : (us : List declared_unit.Unit) (rest : Forest) → Writes (f.each (λ u. ld.unit_labels (d.plain_unit u)) us rest) (e.units_events us) rest
units_are [] rest = same rest
units_are (u ∷ us) rest = before (unit_are (d.plain_unit u) (f.each (λ u. ld.unit_labels (d.plain_unit u)) us rest)) (units_are us rest)

program_are : (us : List declared_unit.Unit) → events_of (ld.program_labels us) ≡ erase (e.program_events us)
program_are us = (last (tree is.Program [] none (last (behind (Restart ∷ []) refl (units_are us none))))).is

-- the rows that are built from them are those of the program
pub built_program : (us : List declared_unit.Unit) → (marking.run marking.start (e.program_events us)).building.rows ≡ program_rows us
built_program us =
    ap (λ (s : State). s.rows) (run_rows marking.start (e.program_events us) ∙ built_erased start (e.program_events us))
    ∙ ap (λ all. (built start all).rows) (sym (program_are us)) ∙ ap (λ (s : State). s.rows) (built_forest (ld.program_labels us) [] 0 0)

-- nothing but the program is left open
pub built_over : (us : List declared_unit.Unit) → (marking.run marking.start (e.program_events us)).building.over ≡ 0
built_over us =
    ap (λ (s : State). s.over) (run_rows marking.start (e.program_events us) ∙ built_erased start (e.program_events us))
    ∙ ap (λ all. (built start all).over) (sym (program_are us)) ∙ ap (λ (s : State). s.over) (built_forest (ld.program_labels us) [] 0 0)

-- A subtree is its node and then the subtrees of its children, and so numbers follow the tree.
use Rattle.std.proofs.Common.{◌≡◌, refl, sym, ◌∙◌, ap, ℕ, zero, suc, ◌+◌, List, [], ◌∷◌, ◌++◌, length, map, take, drop, Option, Some, None, slice_get, arith, append_assoc, length-append}
use Rattle.std.proofs.lemmas.List.{append-nil}
use Rattle.std.proofs.lemmas.List.Sums.{sum_by-cons}
use Rattle.std.specs.List.{sum_by}
use Rattle.std.specs.Option.{option_to_list}
use Rattle.jr_tree.specs.declared.tree.Name.{Name}
use Rattle.jr_tree.specs.declared.tree.Base.{Base}
use Rattle.jr_tree.specs.declared.tree.Base.TheVariants as base
use Rattle.jr_tree.specs.declared.tree.TypeUse.{TypeUse}
use Rattle.jr_tree.specs.declared.tree.Param.{Param}
use Rattle.jr_tree.specs.declared.tree.ResultType.{ResultType}
use Rattle.jr_tree.specs.declared.tree.ResultType.TheVariants as outcome
use Rattle.jr_tree.specs.declared.tree.PackageDecl.{PackageDecl}
use Rattle.jr_tree.specs.declared.tree.Import.{Import}
use Rattle.jr_tree.specs.declared.tree.Import.TheVariants as import
use Rattle.jr_tree.specs.declared.tree.Unit as declared_unit
use Rattle.jr_tree.specs.Mirror.Exprs as x
use Rattle.jr_tree.specs.Mirror.Stmts as s
use Rattle.jr_tree.specs.Mirror.Decls as d
use Rattle.jr_tree.specs.Nodes as n
use Rattle.jr_nodes.specs.Subtree as t

-- the subtrees of some nodes, one after another
abbrev below : n.Nodes → n.Nodes
below = n.each t.subtree

below-append : (a b : n.Nodes) → below (a ++ b) ≡ below a ++ below b
below-append [] b = refl
below-append (m ∷ ms) b = ap (λ r. t.subtree m ++ r) (below-append ms b) ∙ sym (append_assoc (t.subtree m) (below ms) (below b))

below-map : {A : Type 0} (make : A → n.Node) (f : A → n.Nodes) → ((a : A) → t.subtree (make a) ≡ f a) → (all : List A) → below (map make all) ≡ n.each f all
below-map make f h [] = refl
below-map make f h (a ∷ all) = ap (λ r. r ++ below (map make all)) (h a) ∙ ap (λ r. f a ++ r) (below-map make f h all)

below-option : {A : Type 0} (make : A → n.Node) (f : A → n.Nodes) → ((a : A) → t.subtree (make a) ≡ f a) → (o : Option A) → below (map make (option_to_list o)) ≡ n.if_some f o
below-option make f h None = refl
below-option make f h (Some a) = append-nil (t.subtree (make a)) ∙ h a

-- ---- the lists and options of each type

below-names : (all : List Name) → below (map n.OfName all) ≡ n.each n.name_nodes all
below-names = below-map n.OfName n.name_nodes (λ (a : Name). refl)

below-any_name : (o : Option Name) → below (map n.OfName (option_to_list o)) ≡ n.if_some n.name_nodes o
below-any_name = below-option n.OfName n.name_nodes (λ (a : Name). refl)

below-params : (all : List Param) → below (map n.OfParam all) ≡ n.each n.param_nodes all
below-params = below-map n.OfParam n.param_nodes (λ (a : Param). refl)

below-imports : (all : List Import) → below (map n.OfImport all) ≡ n.each n.import_nodes all
below-imports = below-map n.OfImport n.import_nodes (λ (a : Import). refl)

below-any_package : (o : Option PackageDecl) → below (map n.OfPackage (option_to_list o)) ≡ n.if_some n.package_nodes o
below-any_package = below-option n.OfPackage n.package_nodes (λ (a : PackageDecl). refl)

below-declarators : (all : List s.Declarator) → below (map n.OfDeclarator all) ≡ n.each n.declarator_nodes all
below-declarators = below-map n.OfDeclarator n.declarator_nodes (λ (a : s.Declarator). refl)

below-any_for : (o : Option s.ForInit) → below (map n.OfForInit (option_to_list o)) ≡ n.if_some n.for_init_nodes o
below-any_for = below-option n.OfForInit n.for_init_nodes (λ (a : s.ForInit). refl)

below-any_expr : (o : Option x.Expr) → below (map n.OfExpr (option_to_list o)) ≡ n.if_some n.expr_nodes o
below-any_expr = below-option n.OfExpr n.expr_nodes (λ (a : x.Expr). refl)

below-body : (o : Option s.Block) → below (map n.OfBlock (option_to_list o)) ≡ n.if_some n.block_nodes o
below-body = below-option n.OfBlock n.block_nodes (λ (a : s.Block). refl)

below-decls : (all : List d.TypeDecl) → below (map n.OfDecl all) ≡ n.each n.decl_nodes all
below-decls = below-map n.OfDecl n.decl_nodes (λ (a : d.TypeDecl). refl)

below-base : (b : Base) → below (t.base_children b) ≡ n.base_nodes b
below-base (base.Primitive p) = refl
below-base (base.Named name) = refl

below-result : (r : ResultType) → below (t.result_children r) ≡ n.result_nodes r
below-result outcome.Void = refl
below-result (outcome.Of ty) = append-nil (n.type_nodes ty)

below-any_receiver : (o : x.AnyReceiver) → below (t.any_receiver o) ≡ n.any_receiver_nodes o
below-any_receiver x.no_receiver = refl
below-any_receiver (x.a_receiver r) = append-nil (n.receiver_nodes r)

below-any_list : (o : x.AnyList) → below (t.any_list o) ≡ n.any_list_nodes o
below-any_list x.no_list = refl
below-any_list (x.a_list l) = append-nil (n.list_nodes l)

below-exprs : (all : x.Exprs) → below (t.exprs all) ≡ n.exprs_nodes all
below-exprs x.no_exprs = refl
below-exprs (x.more_exprs e all) = ap (λ r. n.expr_nodes e ++ r) (below-exprs all)

subtree-init : (i : x.Init) → t.subtree (t.init i) ≡ n.init_nodes i
subtree-init (x.Value value) = refl
subtree-init (x.Listed l) = refl

below-any_init : (o : Option x.Init) → below (map t.init (option_to_list o)) ≡ n.if_some n.init_nodes o
below-any_init = below-option t.init n.init_nodes subtree-init

below-inits : (all : x.Inits) → below (t.inits all) ≡ n.inits_nodes all
below-inits x.no_inits = refl
below-inits (x.more_inits i all) = ap (λ r. r ++ below (t.inits all)) (subtree-init i) ∙ ap (λ r. n.init_nodes i ++ r) (below-inits all)

below-labels : (all : List s.SwitchLabel) → below (t.labels all) ≡ n.each n.label_nodes all
below-labels [] = refl
below-labels (s.Case value ∷ all) = ap (λ r. n.expr_nodes value ++ r) (below-labels all)
below-labels (s.Default ∷ all) = below-labels all

below-any_stmt : (o : s.AnyStmt) → below (t.any_stmt o) ≡ n.any_stmt_nodes o
below-any_stmt s.no_stmt = refl
below-any_stmt (s.a_stmt a) = append-nil (n.stmt_nodes a)

below-any_block : (o : s.AnyBlock) → below (t.any_block o) ≡ n.any_block_nodes o
below-any_block s.no_block = refl
below-any_block (s.a_block b) = append-nil (n.block_nodes b)

below-stmts : (all : s.Stmts) → below (t.stmts all) ≡ n.stmts_nodes all
below-stmts s.no_stmts = refl
below-stmts (s.more_stmts a all) = ap (λ r. n.stmt_nodes a ++ r) (below-stmts all)

below-groups : (all : s.Groups) → below (t.groups all) ≡ n.groups_nodes all
below-groups s.no_groups = refl
below-groups (s.more_groups g all) = ap (λ r. n.group_nodes g ++ r) (below-groups all)

below-catches : (all : s.Catches) → below (t.catches all) ≡ n.catches_nodes all
below-catches s.no_catches = refl
below-catches (s.more_catches c all) = ap (λ r. n.catch_nodes c ++ r) (below-catches all)

below-members : (all : d.Members) → below (t.members all) ≡ n.members_nodes all
below-members d.no_members = refl
below-members (d.more_members m all) = ap (λ r. n.member_nodes m ++ r) (below-members all)

ruleset expr_rules = (append-nil, append_assoc, below-append, below-any_name, below-base, below-any_receiver, below-any_list, below-exprs)

ruleset stmt_rules = (append-nil, append_assoc, below-append, below-declarators, below-any_for, below-any_expr, below-exprs, below-any_init, below-labels, below-any_stmt, below-any_block, below-stmts, below-groups, below-catches)

ruleset decl_rules = (append-nil, append_assoc, below-append, below-names, below-params, below-result, below-declarators, below-body, below-members, below-imports, below-any_package, below-decls)

-- ---- each type's nodes

of_import : (i : Import) → n.import_nodes i ≡ n.OfImport i ∷ below (t.import_children i)
of_import (import.Single name) = refl
of_import (import.OnDemand name) = refl
of_import (import.StaticSingle name member) = refl

of_type : (ty : TypeUse) → n.type_nodes ty ≡ n.OfType ty ∷ below (t.base_children ty.base)
of_type ty = ap (λ r. n.OfType ty ∷ r) (sym (below-base ty.base))

of_param : (p : Param) → n.param_nodes p ≡ n.OfParam p ∷ below (n.OfType p.ty ∷ [])
of_param p = ap (λ r. n.OfParam p ∷ r) (sym (append-nil (n.type_nodes p.ty)))

of_expr : (e : x.Expr) → n.expr_nodes e ≡ n.OfExpr e ∷ below (t.expr_children e)
of_expr (x.Assign target op value) = simp expr_rules
of_expr (x.Cond c a b) = simp expr_rules
of_expr (x.Binary left op right) = simp expr_rules
of_expr (x.IsA value ty) = simp expr_rules
of_expr (x.Unary op value) = simp expr_rules
of_expr (x.Cast ty value) = simp expr_rules
of_expr (x.PreStep op value) = simp expr_rules
of_expr (x.PostStep value op) = simp expr_rules
of_expr (x.Lit token) = refl
of_expr (x.This class) = simp expr_rules
of_expr (x.Paren inner) = simp expr_rules
of_expr (x.NameExpr name) = refl
of_expr (x.Select object name) = simp expr_rules
of_expr (x.SuperSelect name) = refl
of_expr (x.Index array at) = simp expr_rules
of_expr (x.Call object name args) = simp expr_rules
of_expr (x.New class args) = simp expr_rules
of_expr (x.NewArray element dims more list) = simp expr_rules

of_receiver : (r : x.Receiver) → n.receiver_nodes r ≡ n.OfReceiver r ∷ below (t.receiver_children r)
of_receiver (x.Of object) = simp expr_rules
of_receiver (x.OfName name) = refl
of_receiver x.Super = refl

of_list : (l : x.InitList) → n.list_nodes l ≡ n.OfList l ∷ below (t.list_children l)
of_list (x.ListOf all is_open_ended) = ap (λ r. n.OfList (x.ListOf all is_open_ended) ∷ r) (sym (below-inits all))

of_init : (i : x.Init) → t.init_subtree i ≡ n.OfInit i ∷ below (t.init_children i)
of_init (x.Value value) = simp expr_rules
of_init (x.Listed l) = simp expr_rules

of_declarator : (v : s.Declarator) → n.declarator_nodes v ≡ n.OfDeclarator v ∷ below (t.declarator_children v)
of_declarator (s.DeclaratorOf name dims value) = simp stmt_rules

of_for_init : (f : s.ForInit) → n.for_init_nodes f ≡ n.OfForInit f ∷ below (t.for_init_children f)
of_for_init (s.Locals is_final ty ds) = simp stmt_rules
of_for_init (s.Exprs es) = simp stmt_rules

of_stmt : (a : s.Stmt) → n.stmt_nodes a ≡ n.OfStmt a ∷ below (t.stmt_children a)
of_stmt (s.Nest b) = simp stmt_rules
of_stmt (s.Local is_final ty ds) = simp stmt_rules
of_stmt s.Skip = refl
of_stmt (s.Do body c) = simp stmt_rules
of_stmt (s.While c body) = simp stmt_rules
of_stmt (s.If c a b) = simp stmt_rules
of_stmt (s.Eval value) = simp stmt_rules
of_stmt (s.For first c update body) = simp stmt_rules
of_stmt (s.Switch value gs) = simp stmt_rules
of_stmt (s.Labeled label body) = simp stmt_rules
of_stmt (s.Break label) = refl
of_stmt (s.Continue label) = refl
of_stmt (s.Return value) = simp stmt_rules
of_stmt (s.Throw value) = simp stmt_rules
of_stmt (s.Try body cs last) = simp stmt_rules
of_stmt (s.CtorCall which args) = simp stmt_rules

of_block : (b : s.Block) → n.block_nodes b ≡ n.OfBlock b ∷ below (t.block_children b)
of_block (s.BlockOf all) = simp stmt_rules

of_catch : (c : s.Catch) → n.catch_nodes c ≡ n.OfCatch c ∷ below (t.catch_children c)
of_catch (s.CatchOf p b) = simp stmt_rules

of_group : (g : s.Group) → n.group_nodes g ≡ n.OfGroup g ∷ below (t.group_children g)
of_group (s.GroupOf ls all) = simp stmt_rules

of_decl : (y : d.TypeDecl) → n.decl_nodes y ≡ n.OfDecl y ∷ below (t.decl_children y)
of_decl (d.Class mods name parent faces body) = simp (append_assoc, below-append, below-any_name parent, below-names faces, below-members)
of_decl (d.Interface mods name faces body) = simp decl_rules
of_decl d.Empty = refl

of_member : (m : d.Member) → n.member_nodes m ≡ n.OfMember m ∷ below (t.member_children m)
of_member (d.Field mods ty ds) = simp decl_rules
of_member (d.Method mods gives name params thrown body) = simp decl_rules
of_member (d.Constructor mods name params thrown body) = simp decl_rules
of_member (d.Init is_static body) = simp decl_rules
of_member (d.Nested y) = simp decl_rules

of_unit : (u : d.CompilationUnit) → n.unit_nodes u ≡ n.OfUnit u ∷ below (t.unit_children u)
of_unit (d.UnitOf package_decl imports types) = simp decl_rules

-- a subtree is its node, and then the subtrees of its children
pub in_preorder : (m : n.Node) → t.subtree m ≡ m ∷ n.each t.subtree (t.children m)
in_preorder (n.OfUnit u) = of_unit u
in_preorder (n.OfPackage p) = refl
in_preorder (n.OfImport i) = of_import i
in_preorder (n.OfName name) = refl
in_preorder (n.OfType ty) = of_type ty
in_preorder (n.OfParam p) = of_param p
in_preorder (n.OfDeclarator v) = of_declarator v
in_preorder (n.OfInit i) = of_init i
in_preorder (n.OfList l) = of_list l
in_preorder (n.OfExpr e) = of_expr e
in_preorder (n.OfReceiver r) = of_receiver r
in_preorder (n.OfForInit f) = of_for_init f
in_preorder (n.OfStmt a) = of_stmt a
in_preorder (n.OfBlock b) = of_block b
in_preorder (n.OfGroup g) = of_group g
in_preorder (n.OfCatch c) = of_catch c
in_preorder (n.OfMember m) = of_member m
in_preorder (n.OfDecl y) = of_decl y

-- ---- sizes

length-below : (ms : n.Nodes) → length (n.each t.subtree ms) ≡ sum_by t.size ms
length-below [] = refl
length-below (m ∷ ms) = length-append (t.subtree m) (n.each t.subtree ms) ∙ ap (λ k. length (t.subtree m) + k) (length-below ms) ∙ sym (sum_by-cons t.size m ms)

-- a subtree has its node, and the nodes of the subtrees of its children
pub sizes : (m : n.Node) → t.size m ≡ 1 + sum_by t.size (t.children m)
sizes m =
    let whole : length (t.subtree m) ≡ length (m ∷ n.each t.subtree (t.children m)) = ap length (in_preorder m) in
    let parts = length-below (t.children m) in
    omega (arith, whole, parts)

-- ---- numbers

-- a unit's subtree is the whole list
pub first : (u : declared_unit.Unit) → t.StandsAt (n.nodes u) 0 (n.OfUnit (d.plain_unit u))
first u = record { before = []; after = []; all_is = sym (append-nil (n.nodes u)); number_is = refl }

slice_get-seam : (before : n.Nodes) (m : n.Node) (rest : n.Nodes) → slice_get (before ++ (m ∷ rest)) (length before) ≡ Some m
slice_get-seam [] m rest = refl
slice_get-seam (b ∷ bs) m rest = slice_get-seam bs m rest

-- the node itself has the number at which its subtree begins
pub found : (all : n.Nodes) (number : ℕ) (m : n.Node) → t.StandsAt all number m → slice_get all number ≡ Some m
found all number m h =
    let children = n.each t.subtree (t.children m) in
    let whole : all ≡ h.before ++ (m ∷ (children ++ h.after)) = h.all_is ∙ ap (λ r. h.before ++ r ++ h.after) (in_preorder m) ∙ append_assoc h.before (m ∷ children) h.after in
    ap (slice_get all) (sym h.number_is) ∙ ap (λ r. slice_get r (length h.before)) whole ∙ slice_get-seam h.before m (children ++ h.after)

-- the subtrees of some nodes are those before one of them, its own, and those after it
around : (ms : n.Nodes) (k : ℕ) (m : n.Node) → slice_get ms k ≡ Some m → below ms ≡ below (take k ms) ++ (t.subtree m ++ below (drop (suc k) ms))
around [] k m h = cc
around (a ∷ others) zero m h = let e : a ≡ m = cc in rw e refl
around (a ∷ others) (suc k) m h =
    ap (λ r. t.subtree a ++ r) (around others k m h) ∙ sym (append_assoc (t.subtree a) (below (take k others)) (t.subtree m ++ below (drop (suc k) others)))

regroup : (a b c e f : n.Nodes) (parent : n.Node) → a ++ (parent ∷ (b ++ (c ++ e))) ++ f ≡ (a ++ (parent ∷ b)) ++ c ++ (e ++ f)
regroup a b c e f parent = simp append_assoc

-- a child's subtree begins after its parent and the subtrees of the children before it
pub child : (all : n.Nodes) (number k : ℕ) (parent m : n.Node) → t.StandsAt all number parent → slice_get (t.children parent) k ≡ Some m
    → t.StandsAt all (number + 1 + sum_by t.size (take k (t.children parent))) m
child all number k parent m h at_k =
    let earlier : n.Nodes = take k (t.children parent) in
    let later : n.Nodes = drop (suc k) (t.children parent) in
    let parts : t.subtree parent ≡ parent ∷ (below earlier ++ (t.subtree m ++ below later)) = in_preorder parent ∙ ap (λ r. parent ∷ r) (around (t.children parent) k m at_k) in
    let size_before : length (below earlier) ≡ sum_by t.size earlier = length-below earlier in
    let count : length (h.before ++ (parent ∷ below earlier)) ≡ length h.before + length (parent ∷ below earlier) = length-append h.before (parent ∷ below earlier) in
    record {
      before = h.before ++ (parent ∷ below earlier);
      after = below later ++ h.after;
      all_is = h.all_is ∙ ap (λ r. h.before ++ r ++ h.after) parts ∙ regroup h.before (below earlier) (t.subtree m) (below later) h.after parent;
      number_is = omega (arith, count, size_before, h.number_is);
    }

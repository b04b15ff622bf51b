-- What a borrowed node is as plain data.
use Rattle.jr_tree.specs.Nodes.{Node, OfUnit, OfPackage, OfImport, OfName, OfType, OfParam, OfDeclarator, OfInit, OfList, OfExpr, OfReceiver, OfForInit, OfStmt, OfBlock, OfGroup, OfCatch, OfMember, OfDecl}
use Rattle.jr_tree.specs.Mirror.Exprs as x
use Rattle.jr_tree.specs.Mirror.Stmts as s
use Rattle.jr_tree.specs.Mirror.Decls as d
use Rattle.jr_nodes.specs.declared.node_ref.NodeRef.{NodeRef}
use Rattle.jr_nodes.specs.declared.node_ref.NodeRef.TheVariants as ref

abbrev pub seen : NodeRef → Node
seen (ref.Unit r) = OfUnit (d.plain_unit r.now)
seen (ref.PackageDecl r) = OfPackage r.now
seen (ref.Import r) = OfImport r.now
seen (ref.TypeDecl r) = OfDecl (d.plain_decl r.now)
seen (ref.Member r) = OfMember (d.plain_member r.now)
seen (ref.Block r) = OfBlock (s.plain_block r.now)
seen (ref.Stmt r) = OfStmt (s.plain_stmt r.now)
seen (ref.ForInit r) = OfForInit (s.plain_for r.now)
seen (ref.Group r) = OfGroup (s.plain_group r.now)
seen (ref.Catch r) = OfCatch (s.plain_catch r.now)
seen (ref.Expr r) = OfExpr (x.plain_expr r.now)
seen (ref.Receiver r) = OfReceiver (x.plain_receiver r.now)
seen (ref.Declarator r) = OfDeclarator (s.plain_declarator r.now)
seen (ref.Init r) = OfInit (x.plain_init r.now)
seen (ref.InitList r) = OfList (x.plain_list r.now)
seen (ref.Param r) = OfParam r.now
seen (ref.TypeUse r) = OfType r.now
seen (ref.Name r) = OfName r.now

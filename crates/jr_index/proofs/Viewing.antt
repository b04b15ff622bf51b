-- A call and a creation of an array, as plain data.
use Rattle.std.proofs.Common.{◌≡◌, ℕ, List, Option, Some, None, ap, sym, ◌∙◌}
use Rattle.jr_base.specs.declared.text.Text.{Text}
use Rattle.jr_tree.specs.declared.tree.Base.{Base}
use Rattle.jr_tree.specs.declared.tree.Expr as declared_expr
use Rattle.jr_tree.specs.declared.tree.Receiver as declared_receiver
use Rattle.jr_tree.specs.declared.tree.InitList as declared_list
use Rattle.jr_tree.specs.declared.tree.Expr.TheOpen.{Expr-F}
use Rattle.jr_tree.specs.declared.tree.Expr.TheFolds.{fold-roll-Expr}
use Rattle.jr_tree.specs.declared.tree.Expr.TheVariants as expr
use Rattle.jr_tree.specs.declared.tree.Expr.TheVariants.{rolls-Call, rolls-NewArray}
use Rattle.jr_tree.specs.Mirror.Exprs as x

pub call_seen : (r : Option declared_receiver.Receiver) (name : Text) (all : List declared_expr.Expr)
    → x.plain_expr (expr.Call r name all) ≡ x.Call (x.plain_any_receiver r) name (x.plain_exprs all)
call_seen None name all = ap x.plain_expr (sym (rolls-Call None name all))
    ∙ fold-roll-Expr x.Expr x.Init x.Receiver x.InitList x.expr_step x.init_step x.receiver_step x.list_step (Expr-F.Call None name all)
call_seen (Some r) name all = ap x.plain_expr (sym (rolls-Call (Some r) name all))
    ∙ fold-roll-Expr x.Expr x.Init x.Receiver x.InitList x.expr_step x.init_step x.receiver_step x.list_step (Expr-F.Call (Some r) name all)

pub array_seen : (base : Base) (lengths : List declared_expr.Expr) (more : ℕ) (list : Option declared_list.InitList)
    → x.plain_expr (expr.NewArray base lengths more list) ≡ x.NewArray base (x.plain_exprs lengths) more (x.plain_any_list list)
array_seen base lengths more None = ap x.plain_expr (sym (rolls-NewArray base lengths more None))
    ∙ fold-roll-Expr x.Expr x.Init x.Receiver x.InitList x.expr_step x.init_step x.receiver_step x.list_step (Expr-F.NewArray base lengths more None)
array_seen base lengths more (Some list) = ap x.plain_expr (sym (rolls-NewArray base lengths more (Some list)))
    ∙ fold-roll-Expr x.Expr x.Init x.Receiver x.InitList x.expr_step x.init_step x.receiver_step x.list_step (Expr-F.NewArray base lengths more (Some list))

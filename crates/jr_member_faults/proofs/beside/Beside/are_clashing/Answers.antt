use Rattle.std.proofs.Common.{sym, ◌∙◌, ap, ◌&&◌, not}
use Rattle.std.proofs.lemmas.Bool.{and_parts}
use Rattle.jr_plain.specs.Enclosing.{is_declared_in}
use Rattle.jr_plain.specs.Members.{are_same_methods}
use Rattle.jr_plain.proofs.Membership.{same_methods_tells}
use Rattle.jr_member_faults.specs.Beside.{do_clash}
use Rattle.jr_member_faults.specs.Views.{rows_of, table_of}
use Rattle.jr_member_faults.proofs.beside.Beside.are_clashing.Goals as goal

pub returns-then-not-are_beside : goal.returns-then-not-are_beside
returns-then-not-are_beside c = λ h. let w = c.args.self.world.now in sym (ap (λ b. b && do_clash (rows_of w) (table_of w) c.args.clash c.args.method c.args.other) (sym (c.are_beside.ensures h.right) ∙ c.if-not-are_beside.true))

pub returns : goal.returns
returns c = λ h. let w = c.args.self.world.now in let p = rows_of w in let t = table_of w in let is = sym (c.are_beside.ensures h.right) ∙ c.if-not-are_beside.false in
    let parts = and_parts (are_same_methods p t c.args.method c.args.other) (not (is_declared_in p c.args.self.over c.args.method) && not (is_declared_in p c.args.self.over c.args.other)) is in
    let same = (same_methods_tells p t h.right.whole.world_is.seen.above.well.headed c.args.method c.args.other).0 parts.0 in
    c.in_ok-is.ensures h same.first same.second ∙ sym (ap (λ b. b && do_clash p t c.args.clash c.args.method c.args.other) is)

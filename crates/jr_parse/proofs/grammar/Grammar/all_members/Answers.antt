use Rattle.std.proofs.Common.{rules, ◌≡◌, ◌∙◌, sym, ap, refl, true, false, List, [], ◌∷◌, ◌++◌, map}
use Rattle.jr_tree.specs.declared.tree.Member.{Member}
use Rattle.jr_tree.specs.Mirror.Decls.{plain_member}
use Rattle.jr_parse_laws.specs.Parsers.{first, kinds, many, with_front}
use Rattle.jr_parse_laws.proofs.Outcomes.{reads_err}
use Rattle.jr_parse_defs.specs.Begins as begins
use Rattle.jr_parse_defs.specs.Decls as spec
use Rattle.jr_parse.proofs.Turns.{fewer_tokens, items_more, items_fail, items_done, member_shortens}
use Rattle.jr_parse.proofs.grammar.Grammar.all_members.Goals as goal

pub returns-in_err-next : goal.returns-in_err-next
returns-in_err-next g c =
    let some : begins.starts_member (first (kinds c.members.cursor)) ≡ true = sym c.starts_member.ensures ∙ c.members-test.true in
    rw c.members.invariant
    (reads_err _ _ c.from_residual.result c.in_err-next.field-0.0 (kinds c.member.new.cursor) (search rules)
    (items_fail plain_member begins.starts_member (spec.member c.args.self.now.room) refl (member_shortens c.args.self.now.room) c.members.all (kinds c.members.cursor) c.in_err-next.field-0.0 (kinds c.member.new.cursor) some
    c.in_err-next.ensures))

pub members-smaller : goal.members-smaller
members-smaller g c =
    fewer_tokens c.members.cursor c.member.new.cursor (member_shortens c.args.self.now.room (kinds c.members.cursor) (plain_member c.in_ok-next.next) (kinds c.member.new.cursor) c.in_ok-next.ensures)

pub members-preserved : goal.members-preserved
members-preserved g c =
    let some : begins.starts_member (first (kinds c.members.cursor)) ≡ true = sym c.starts_member.ensures ∙ c.members-test.true in
    let pushed : c.push.new.self ≡ c.members.all ++ c.in_ok-next.next ∷ [] = search rules in
    c.members.invariant
    ∙ items_more plain_member begins.starts_member (spec.member c.args.self.now.room) refl (member_shortens c.args.self.now.room) c.members.all (kinds c.members.cursor) c.in_ok-next.next (kinds c.member.new.cursor) some
    c.in_ok-next.ensures
    ∙ ap (λ (all : List Member). with_front (map plain_member all) (many begins.starts_member (spec.member c.args.self.now.room) (kinds c.member.new.cursor))) (sym pushed)

pub returns : goal.returns
returns g c =
    let over : begins.starts_member (first (kinds c.members.cursor)) ≡ false = sym c.starts_member.ensures ∙ c.members-test.false in
    c.members.invariant ∙ items_done plain_member begins.starts_member (spec.member c.args.self.now.room) refl (member_shortens c.args.self.now.room) c.members.all (kinds c.members.cursor) over

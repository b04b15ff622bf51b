use Rattle.std.proofs.Common.{◌≡◌, sym, ◌∙◌, arith, [], ◌∷◌}
use Rattle.std.proofs.lemmas.Bool.{false≢true}
use Rattle.jr_commit.proofs.Moments.{read_once, read_twice}
use Rattle.jr_top.proofs.Held.{not_listed, large, holds_it, read_again, first_is}
use Rattle.jr_top.proofs.decide.find.Goals as goal

pub returns-then-not-is_just-clause-held : goal.returns-then-not-is_just-clause-held
returns-then-not-is_just-clause-held g c =
    not_listed _ c.args.file.now _ c.in_ok-paths.ensures.distinct c.in_ok-paths.ensures.java c.in_ok-paths.ensures.listed
    (λ is. false≢true (sym c.if-not-is_just.true ∙ c.is_just.ensures.1 (c.deref.ensures.value ∙ is)))

pub returns-then-len-gt65536-clause-held : goal.returns-then-len-gt65536-clause-held
returns-then-len-gt65536-clause-held g c =
    let just : c.in_ok-paths.paths.items ≡ c.args.file.now ∷ [] = sym c.deref.ensures.value ∙ c.is_just.ensures.0 c.if-not-is_just.false in
    large _ c.args.file.now c.in-Some.bytes.items
    (read_again 65537 _ _ c.args.file.now _ c.in_ok-bytes.field-0 c.in-Some.bytes c.in_ok-paths.ensures.told (first_is _ _ _ just c.index.ensures) c.in-Some.is c.in_ok-bytes.ensures.bytes)
    (omega (arith, c.len.ensures, c.in-Some.bytes.ok.0))

pub returns-clause-held : goal.returns-clause-held
returns-clause-held g c =
    let just : c.in_ok-paths.paths.items ≡ c.args.file.now ∷ [] = sym c.deref.ensures.value ∙ c.is_just.ensures.0 c.if-not-is_just.false in
    holds_it _ c.args.file.now c.in-Some.bytes.items _ c.in_ok-paths.ensures.java c.in_ok-paths.ensures.listed just
    (read_again 65537 _ _ c.args.file.now _ c.in_ok-bytes.field-0 c.in-Some.bytes c.in_ok-paths.ensures.told (first_is _ _ _ just c.index.ensures) c.in-Some.is c.in_ok-bytes.ensures.bytes)
    (omega (arith, c.len.ensures, c.in-Some.bytes.ok.0))

pub returns-in_err-paths-clause-any_moment : goal.returns-in_err-paths-clause-any_moment
returns-in_err-paths-clause-any_moment g c =
    let S = g.S.Store in
    read_once S.may_leave S.moment S.left_since c.args.store.now (g.met.S.Store.only_now c.args.store.now) c.list.new.self c.list.ensures.time c.list.ensures.crash

pub returns-then-not-is_just-clause-any_moment : goal.returns-then-not-is_just-clause-any_moment
returns-then-not-is_just-clause-any_moment g c =
    let S = g.S.Store in
    read_once S.may_leave S.moment S.left_since c.args.store.now (g.met.S.Store.only_now c.args.store.now) c.list.new.self c.list.ensures.time c.list.ensures.crash

pub returns-clause-any_moment : goal.returns-clause-any_moment
returns-clause-any_moment g c =
    let S = g.S.Store in
    read_twice S.may_leave S.moment S.left_since c.args.store.now (g.met.S.Store.only_now c.args.store.now) c.list.new.self c.list.ensures.time c.list.ensures.crash c.read.new.self c.read.ensures.time c.read.ensures.crash

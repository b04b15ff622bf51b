use Rattle.std.proofs.Common.{sym, subst}
use Rattle.jr_thin.specs.Trees.{kinds_of}
use Rattle.jr_thin.specs.Binding.{MethodsRise}
use Rattle.jr_thin.proofs.Files.{no_sites, no_targets, is_read}
use Rattle.jr_thin.proofs.Methods.{methods_rise}
use Rattle.jr_thin.proofs.served.class_in.Goals as goal

pub returns-in_default-2 : goal.returns-in_default-2
returns-in_default-2 c =
    let are = rw c.in-Some.is at c.in_ok-tokens.ensures in
    let none = rw (c.in_default-2.is, c.deref.ensures.value) at c.in_ok-sites.ensures in
    no_sites c.args.bytes.now c.in-Some.tokens.items are none

pub targets-requires : goal.targets-requires
targets-requires c =
    let read = rw (c.in-Some-2.is, c.deref.ensures.value) at c.in_ok-sites.ensures in
    subst MethodsRise (sym c.deref-2.ensures.value) (methods_rise (kinds_of c.in-Some.tokens.items) c.in-Some-2.sites.items (sym read))

pub returns-in_default-3 : goal.returns-in_default-3
returns-in_default-3 c =
    let are = rw c.in-Some.is at c.in_ok-tokens.ensures in
    let read = rw (c.in-Some-2.is, c.deref.ensures.value) at c.in_ok-sites.ensures in
    let unbound = rw (c.in_default-3.is, c.deref-2.ensures.value) at c.in_ok-targets.ensures in
    no_targets c.args.bytes.now c.in-Some.tokens.items c.in-Some-2.sites.items are read unbound

pub returns : goal.returns
returns c =
    let are = rw c.in-Some.is at c.in_ok-tokens.ensures in
    let read = rw (c.in-Some-2.is, c.deref.ensures.value) at c.in_ok-sites.ensures in
    let bound = rw (c.in-Some-3.is, c.deref-2.ensures.value) at c.in_ok-targets.ensures in
    is_read c.args.bytes.now c.in-Some.tokens.items c.in-Some-2.sites.items c.in-Some-3.targets.items are read bound.0 bound.1

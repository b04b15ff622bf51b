use Rattle.jr_dispatch.proofs.called.Called.of.Goals as goal

pub returns : goal.returns
returns c = λ well none sized places. record {
  supers = c.in_ok-supers.ensures.all well none;
  signatures = c.in_ok-callables.ensures.signatures sized places;
  callables = c.in_ok-callables.ensures.callables;
  declared = c.in_ok-declared.ensures places;
}

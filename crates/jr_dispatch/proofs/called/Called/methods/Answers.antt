use Rattle.std.proofs.Common.{refl}
use Rattle.jr_dispatch.proofs.called.Called.methods.Goals as goal

pub returns : goal.returns
returns c = record {
  under = refl;
  methods = λ t local packages bare class places h. record {
    local = local;
    packages = packages;
    bare = bare;
    class = class;
    places = places;
    supers = h.supers;
    signatures = h.signatures;
    callables = h.callables;
    declared = h.declared;
  };
}

use Rattle.jr_plain.proofs.Dispatched.{overrides_tells, has_method_tells, implements_tells, serves_tells, find_tells, dispatches_tells}
use Rattle.jr_plain.proofs.law.overriding_is_computed.Goals as goal

pub returns : goal.returns
returns c = record {
  overriding = λ p t m k headed. overrides_tells p t headed m k;
  has = λ p t k m headed. has_method_tells p t headed k m;
  implementing = λ p t k f m headed. implements_tells p t headed k f m;
  serving = λ p t k m f headed. serves_tells p t headed k m f;
  found = λ p t k m f headed. find_tells p t headed k m f;
  dispatch = λ p t k m f headed. dispatches_tells p t headed k m f;
}

-- When a call may begin.
use Rattle.std.proofs.Common.{◌≡◌, refl, sym, ap, subst, ◌∙◌}
use Rattle.std.specs.Prelude.{Option, Some, None}
use Rattle.jr_store.specs.Image.{Image, OnlyTold}
use Rattle.jr_commit.specs.Restoring.{journal_path, gate_path, StartsRecover, MayBegin}

fewer_begin : (told : Option Image) (before after : Image → Type 0) → ((c : Image) → after c → before c) → MayBegin told before → MayBegin told after
fewer_begin None before after fewer begins = tt
fewer_begin (Some f) before after fewer begins = record {
  gate = λ c l. begins.gate c (fewer c l);
  shut = λ shut c l. begins.shut shut c (fewer c l);
  journal = λ opened c l. begins.journal opened c (fewer c l);
  files = λ bytes olds opened at is c l. begins.files bytes olds opened at is c (fewer c l);
}

-- after calls that only read
pub reads_begin : (told left : Option Image) (before after : Image → Type 0) → left ≡ told → ((c : Image) → after c → before c) → MayBegin told before → MayBegin left after
reads_begin told left before after same fewer begins = subst (λ (o : Option Image). MayBegin o after) (sym same) (fewer_begin told before after fewer begins)

-- where a crash leaves just what is told
pub told_begins : (told : Option Image) (outcomes : Image → Type 0) → OnlyTold told outcomes → MayBegin told outcomes
told_begins None outcomes only = tt
told_begins (Some f) outcomes only = record {
  gate = λ c l. ap (λ (i : Image). i gate_path) (only c l);
  shut = λ shut c l q java. ap (λ (i : Image). i q) (only c l);
  journal = λ opened c l. ap (λ (i : Image). i journal_path) (only c l);
  files = λ bytes olds opened at is c l q java off. ap (λ (i : Image). i q) (only c l);
}

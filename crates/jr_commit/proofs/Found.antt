-- What a journal that was read says of the file.
use Rattle.std.proofs.Common.{◌≡◌, ℕ, ◌<◌, List, length, take, refl, sym, ◌∙◌, ap, subst, arith, length-take}
use Rattle.std.proofs.lemmas.List.{take_all}
use Rattle.std.specs.Prelude.{Option, Some, None, option_map}
use Rattle.std.proofs.lemmas.Option.{same_Some, none-some}
use Rattle.jr_store.specs.Image.{Image, Reads}
use Rattle.jr_commit.specs.SidesAt.{SideAt}
use Rattle.jr_commit.specs.Journal.{PutsBack}
use Rattle.jr_commit.proofs.Olds.{short_of}
use Rattle.jr_commit.specs.Restoring.{FindsOlds, HasNoJournal}

pub no_file : (told : Option Image) (path : List ℕ) (most : ℕ) → Reads told path most None → HasNoJournal told path
no_file None path most reads = tt
no_file (Some f) path most reads = λ bytes es at is. none-some (take most bytes) (reads ∙ ap (option_map (take most)) at)

taken : (f : Image) (path bytes full : List ℕ) (most : ℕ) → Some bytes ≡ option_map (take most) (f path) → f path ≡ Some full → bytes ≡ take most full
taken f path bytes full most reads at = same_Some bytes (take most full) (reads ∙ ap (option_map (take most)) at)

pub no_entries : (told : Option Image) (path bytes : List ℕ) (most : ℕ) → 50331648 < most → Reads told path most (Some bytes) → ((es : List SideAt) → PutsBack bytes es → ⊥) → HasNoJournal told path
no_entries None path bytes most room reads none = tt
no_entries (Some f) path bytes most room reads none = λ full es at is.
    let whole : bytes ≡ full = taken f path bytes full most reads at ∙ take_all most full (omega (arith, short_of full es is)) in
    none es (subst (λ b. PutsBack b es) (sym whole) is)

pub whole_file : (f : Image) (path bytes : List ℕ) (most : ℕ) (o : Option (List ℕ)) → f path ≡ o → length bytes < most → Some bytes ≡ option_map (take most) (f path) → f path ≡ Some bytes
whole_file f path bytes most None is short reads = absurd (none-some bytes (sym (reads ∙ ap (option_map (take most)) is)))
whole_file f path bytes most (Some full) is short reads =
    let took : bytes ≡ take most full = taken f path bytes full most reads is in
    let same : take most full ≡ full = take_all most full (omega (arith, length-take most full, ap length took, short)) in
    is ∙ ap Some (sym (took ∙ same))

pub entries_found : (told : Option Image) (path bytes : List ℕ) (es : List SideAt) (most : ℕ) → 50331648 < most → Reads told path most (Some bytes) → PutsBack bytes es
    → ((others : List SideAt) → PutsBack bytes others → others ≡ es) → FindsOlds told path es
entries_found None path bytes es most room reads is only = tt
entries_found (Some f) path bytes es most room reads is only = (bytes, whole_file f path bytes most (f path) refl (omega (arith, short_of bytes es is)) reads, is, only)

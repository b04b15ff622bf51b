-- What is told of the files after a call, from what was told before it.
use Rattle.std.proofs.Common.{◌≡◌, refl, subst}
use Rattle.std.specs.Prelude.{Option, Some, None}
use Rattle.std.proofs.lemmas.Option.{same_Some, none-some}
use Rattle.jr_store.specs.Image.{Image, Tells, OnlyTold}

-- the files are told, and R holds of them
abbrev pub IsTold : Option Image → (Image → Type 0) → Type 0
IsTold files R = (g : Image) × (files ≡ Some g) × R g

pub told_on : (old new : Option Image) (R : Image → Image → Type 0) (f : Image) → old ≡ Some f → Tells old new R → IsTold new (λ g. R f g)
told_on None new R f is tells = absurd (none-some f is)
told_on (Some d) None R f is tells = absurd tells
told_on (Some d) (Some g) R f is tells = (g, refl, subst (λ e. R e g) (same_Some d f is) tells)

pub only_told : (files : Option Image) (outcomes : Image → Type 0) (f c : Image) → files ≡ Some f → OnlyTold files outcomes → outcomes c → c ≡ f
only_told None outcomes f c is only left = absurd (none-some f is)
only_told (Some d) outcomes f c is only left = subst (λ e. c ≡ e) (same_Some d f is) (only c left)

pub tells_same : (a : Option Image) (R : Image → Image → Type 0) → ((f : Image) → R f f) → Tells a a R
tells_same None R same = tt
tells_same (Some f) R same = same f

pub tells_weaker : (a b : Option Image) (R P : Image → Image → Type 0) → Tells a b R → ((d f : Image) → R d f → P d f) → Tells a b P
tells_weaker None None R P tells weaker = tt
tells_weaker None (Some f) R P tells weaker = absurd tells
tells_weaker (Some d) None R P tells weaker = absurd tells
tells_weaker (Some d) (Some f) R P tells weaker = weaker d f tells

pub tells_then : (a b c : Option Image) (R Q P : Image → Image → Type 0) → Tells a b R → Tells b c Q → ((d f g : Image) → R d f → Q f g → P d g) → Tells a c P
tells_then None None None R Q P first second both = tt
tells_then None None (Some g) R Q P first second both = absurd second
tells_then None (Some f) c R Q P first second both = absurd first
tells_then (Some d) None c R Q P first second both = absurd first
tells_then (Some d) (Some f) None R Q P first second both = absurd second
tells_then (Some d) (Some f) (Some g) R Q P first second both = both d f g first second

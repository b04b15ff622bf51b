-- What the words say, by how many they are.
use Rattle.std.proofs.Common.{◌≡◌, ℕ, ◌<◌, ◌≤◌, List, [], ◌∷◌, length, get_or, ap, ◌∙◌, arith}
use Rattle.jr_request.specs.Words.{command_of, two_words, place_and_name}

pub command_of-four : (words : List (List ℕ)) (command first second : List ℕ) → 4 ≤ length words → length words < 5
    → command ≡ get_or words 1 command → first ≡ get_or words 2 first → second ≡ get_or words 3 second
    → two_words command first second ≡ command_of words
command_of-four [] command first second low high at1 at2 at3 = absurd (omega arith)
command_of-four (a ∷ []) command first second low high at1 at2 at3 = absurd (omega arith)
command_of-four (a ∷ b ∷ []) command first second low high at1 at2 at3 = absurd (omega arith)
command_of-four (a ∷ b ∷ c ∷ []) command first second low high at1 at2 at3 = absurd (omega arith)
command_of-four (a ∷ b ∷ c ∷ d ∷ []) command first second low high at1 at2 at3 =
    ap (λ w. two_words w first second) at1 ∙ ap (λ w. two_words b w second) at2 ∙ ap (λ w. two_words b c w) at3
command_of-four (a ∷ b ∷ c ∷ d ∷ e ∷ rest) command first second low high at1 at2 at3 = absurd (omega arith)

pub command_of-five : (words : List (List ℕ)) (command file at name : List ℕ) → 5 ≤ length words → length words < 6
    → command ≡ get_or words 1 command → file ≡ get_or words 2 file → at ≡ get_or words 3 at → name ≡ get_or words 4 name
    → place_and_name command file at name ≡ command_of words
command_of-five [] command file at name low high at1 at2 at3 at4 = absurd (omega arith)
command_of-five (a ∷ []) command file at name low high at1 at2 at3 at4 = absurd (omega arith)
command_of-five (a ∷ b ∷ []) command file at name low high at1 at2 at3 at4 = absurd (omega arith)
command_of-five (a ∷ b ∷ c ∷ []) command file at name low high at1 at2 at3 at4 = absurd (omega arith)
command_of-five (a ∷ b ∷ c ∷ d ∷ []) command file at name low high at1 at2 at3 at4 = absurd (omega arith)
command_of-five (a ∷ b ∷ c ∷ d ∷ e ∷ []) command file at name low high at1 at2 at3 at4 =
    ap (λ w. place_and_name w file at name) at1 ∙ ap (λ w. place_and_name b w at name) at2
    ∙ ap (λ w. place_and_name b c w name) at3 ∙ ap (λ w. place_and_name b c d w) at4
command_of-five (a ∷ b ∷ c ∷ d ∷ e ∷ f ∷ rest) command file at name low high at1 at2 at3 at4 = absurd (omega arith)

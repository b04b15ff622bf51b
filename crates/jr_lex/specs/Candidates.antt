-- Which keyword a word may be, by its length and its first two letters, and how far a symbol may reach, by its first two bytes.
use Rattle.std.specs.Prelude.{ℕ, Bool, ◌==◌, ◌||◌, if◌then◌else◌, Option, Some, None}
use Rattle.jr_base.specs.declared.kind.Keyword.{Keyword}
use Rattle.jr_base.specs.declared.kind.Keyword.TheVariants as keyword

abbrev pub of_two : ℕ → Option Keyword
of_two first = if first == 100 then Some keyword.Do else (if first == 105 then Some keyword.If else (None))

abbrev pub of_three : ℕ → Option Keyword
of_three first = if first == 102 then Some keyword.For else (if first == 105 then Some keyword.Int else (if first == 110 then Some keyword.New else (if first == 116 then Some keyword.Try else (None))))

abbrev pub of_four : ℕ → ℕ → Option Keyword
of_four first second = if first == 98 then Some keyword.Byte else (if first == 99 then (if second == 97 then Some keyword.Case else (if second == 104 then Some keyword.Char else (None))) else (if first == 101 then (if second == 108 then Some keyword.Else else (if second == 110 then Some keyword.Enum else (None))) else (if first == 103 then Some keyword.Goto else (if first == 108 then Some keyword.Long else (if first == 110 then Some keyword.Null else (if first == 116 then (if second == 104 then Some keyword.This else (if second == 114 then Some keyword.True else (None))) else (if first == 118 then Some keyword.Void else (None))))))))

abbrev pub of_five : ℕ → ℕ → Option Keyword
of_five first second = if first == 98 then Some keyword.Break else (if first == 99 then (if second == 97 then Some keyword.Catch else (if second == 108 then Some keyword.Class else (if second == 111 then Some keyword.Const else (None)))) else (if first == 102 then (if second == 97 then Some keyword.False else (if second == 105 then Some keyword.Final else (if second == 108 then Some keyword.Float else (None)))) else (if first == 115 then (if second == 104 then Some keyword.Short else (if second == 117 then Some keyword.Super else (None))) else (if first == 116 then Some keyword.Throw else (if first == 119 then Some keyword.While else (None))))))

abbrev pub of_six : ℕ → ℕ → Option Keyword
of_six first second = if first == 97 then Some keyword.Assert else (if first == 100 then Some keyword.Double else (if first == 105 then Some keyword.Import else (if first == 110 then Some keyword.Native else (if first == 112 then Some keyword.Public else (if first == 114 then Some keyword.Return else (if first == 115 then (if second == 116 then Some keyword.Static else (if second == 119 then Some keyword.Switch else (None))) else (if first == 116 then Some keyword.Throws else (None))))))))

abbrev pub of_seven : ℕ → ℕ → Option Keyword
of_seven first second = if first == 98 then Some keyword.Boolean else (if first == 100 then Some keyword.Default else (if first == 101 then Some keyword.Extends else (if first == 102 then Some keyword.Finally else (if first == 112 then (if second == 97 then Some keyword.Package else (if second == 114 then Some keyword.Private else (None))) else (None)))))

abbrev pub of_eight : ℕ → Option Keyword
of_eight first = if first == 97 then Some keyword.Abstract else (if first == 99 then Some keyword.Continue else (if first == 115 then Some keyword.Strictfp else (if first == 118 then Some keyword.Volatile else (None))))

abbrev pub of_nine : ℕ → Option Keyword
of_nine first = if first == 105 then Some keyword.Interface else (if first == 112 then Some keyword.Protected else (if first == 116 then Some keyword.Transient else (None)))

abbrev pub of_ten : ℕ → Option Keyword
of_ten second = if second == 109 then Some keyword.Implements else (if second == 110 then Some keyword.Instanceof else (None))

abbrev pub of_twelve : ℕ → Option Keyword
of_twelve first = if first == 115 then Some keyword.Synchronized else (None)

-- the one keyword of that length that may begin with these two letters
abbrev pub candidate : ℕ → ℕ → ℕ → Option Keyword
candidate len first second = if len == 2 then of_two first else (if len == 3 then of_three first else (if len == 4 then of_four first second else (if len == 5 then of_five first second else (if len == 6 then of_six first second else (if len == 7 then of_seven first second else (if len == 8 then of_eight first else (if len == 9 then of_nine first else (if len == 10 then of_ten second else (if len == 12 then of_twelve first else (None))))))))))

-- no symbol of two bytes begins with the byte
abbrev pub is_lone : ℕ → Bool
is_lone b = ((b == 40) || ((b == 41) || (b == 123))) || (((b == 125) || ((b == 91) || (b == 93))) || ((b == 59) || ((b == 44) || (b == 46))))

-- the second byte of a symbol
abbrev pub is_second : ℕ → Bool
is_second b = ((b == 61) || ((b == 60) || (b == 62))) || (((b == 38) || (b == 124)) || ((b == 43) || (b == 45)))

-- K2's words for the reasons, in ASCII, by the reason's number, and K8's under 10, which no reason has. Definitions only.
use Rattle.std.specs.Prelude.{ℕ, List, [], ◌∷◌, ◌==◌}
use Rattle.laws.specs.Choice.{pick}

-- "flush block"
abbrev pub flush_words : List ℕ
flush_words = 102 ∷ 108 ∷ 117 ∷ 115 ∷ 104 ∷ 32 ∷ 98 ∷ 108 ∷ 111 ∷ 99 ∷ 107 ∷ []

-- "output diverged"
abbrev pub diverged_words : List ℕ
diverged_words = 111 ∷ 117 ∷ 116 ∷ 112 ∷ 117 ∷ 116 ∷ 32 ∷ 100 ∷ 105 ∷ 118 ∷ 101 ∷ 114 ∷ 103 ∷ 101 ∷ 100 ∷ []

-- "far not active"
abbrev pub far_words : List ℕ
far_words = 102 ∷ 97 ∷ 114 ∷ 32 ∷ 110 ∷ 111 ∷ 116 ∷ 32 ∷ 97 ∷ 99 ∷ 116 ∷ 105 ∷ 118 ∷ 101 ∷ []

-- "detector not established"
abbrev pub detector_words : List ℕ
detector_words =
    100 ∷ 101 ∷ 116 ∷ 101 ∷ 99 ∷ 116 ∷ 111 ∷ 114 ∷ 32 ∷ 110 ∷ 111 ∷ 116 ∷ 32 ∷ 101 ∷ 115 ∷ 116 ∷ 97 ∷ 98 ∷ 108 ∷ 105 ∷ 115 ∷ 104 ∷ 101 ∷ 100 ∷ []

-- "rescued"
abbrev pub rescued_words : List ℕ
rescued_words = 114 ∷ 101 ∷ 115 ∷ 99 ∷ 117 ∷ 101 ∷ 100 ∷ []

-- "quiet streak below 6"
abbrev pub quiet_words : List ℕ
quiet_words = 113 ∷ 117 ∷ 105 ∷ 101 ∷ 116 ∷ 32 ∷ 115 ∷ 116 ∷ 114 ∷ 101 ∷ 97 ∷ 107 ∷ 32 ∷ 98 ∷ 101 ∷ 108 ∷ 111 ∷ 119 ∷ 32 ∷ 54 ∷ []

-- "output power not above 0"
abbrev pub power_words : List ℕ
power_words =
    111 ∷ 117 ∷ 116 ∷ 112 ∷ 117 ∷ 116 ∷ 32 ∷ 112 ∷ 111 ∷ 119 ∷ 101 ∷ 114 ∷ 32 ∷ 110 ∷ 111 ∷ 116 ∷ 32 ∷ 97 ∷ 98 ∷ 111 ∷ 118 ∷ 101 ∷ 32 ∷ 48 ∷ []

-- "advantage not at least 0.1"
abbrev pub advantage_words : List ℕ
advantage_words =
    97 ∷ 100 ∷ 118 ∷ 97 ∷ 110 ∷ 116 ∷ 97 ∷ 103 ∷ 101 ∷ 32 ∷ 110 ∷ 111 ∷ 116 ∷ 32 ∷ 97 ∷ 116 ∷ 32 ∷ 108 ∷ 101 ∷ 97 ∷ 115 ∷ 116 ∷ 32 ∷ 48 ∷ 46 ∷ 49 ∷ []

-- "moved"
abbrev pub moved_words : List ℕ
moved_words = 109 ∷ 111 ∷ 118 ∷ 101 ∷ 100 ∷ []

-- "went over"
abbrev pub over_words : List ℕ
over_words = 119 ∷ 101 ∷ 110 ∷ 116 ∷ 32 ∷ 111 ∷ 118 ∷ 101 ∷ 114 ∷ []

unfoldable pub words_of : ℕ → List ℕ
words_of number =
    pick (number == 1) flush_words
    (pick (number == 2) diverged_words
    (pick (number == 3) far_words
    (pick (number == 4) detector_words
    (pick (number == 5) rescued_words
    (pick (number == 6) quiet_words
    (pick (number == 7) power_words
    (pick (number == 8) advantage_words
    (pick (number == 10) over_words moved_words))))))))

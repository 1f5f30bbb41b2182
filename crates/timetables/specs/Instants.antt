-- What the array of next releases is asked for: the least of them, the instant from which a job waits, and whether a lower task's has come. Assumes nothing.
use Rattle.std.specs.Prelude.{ℕ, min, max, Bool, true, false, List, [], ◌∷◌, take, nat_le, nat_lt}
use Rattle.rules.specs.declared.Entry.{Entry}
use Rattle.rules.specs.Tasks.{largest_number}
use Rattle.rules.specs.Timetable.{pick}

-- an instant that no release comes to
abbrev pub never : ℕ
never = largest_number

-- the least of instants
abbrev pub least_of : List ℕ → ℕ
least_of [] = never
least_of (r ∷ rs) = min r (least_of rs)

-- the instant from which a job waits for the processor: n tasks, the releases of their next jobs, the instant from which the processor is free
abbrev pub instant_of : ℕ → List ℕ → ℕ → ℕ
instant_of n releases free = max free (least_of (take n releases))

-- has one of the instants come by s
abbrev pub some_by : ℕ → List ℕ → Bool
some_by s [] = false
some_by s (r ∷ rs) = pick (nat_le r s) true (some_by s rs)

-- is there a forced idle before an entry, and is it an inversion
abbrev pub idles_before : ℕ → List ℕ → ℕ → Entry → Bool
idles_before n releases free e = nat_lt (instant_of n releases free) e.start

abbrev pub inverts : List ℕ → Entry → Bool
inverts releases e = some_by e.start (take e.task releases)

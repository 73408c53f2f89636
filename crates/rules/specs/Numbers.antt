-- The numbers by which refusals are known, and the numbers that each names.
use Rattle.std.specs.Prelude.{ℕ, List, [], ◌∷◌}
use Rattle.rules.specs.declared.counts.Counts.{Counts}
use Rattle.rules.specs.declared.refusal.Table.{Table}
use Rattle.rules.specs.declared.refusal.Table.TheVariants.{A, B, Divisor, CofactorA, CofactorB}
use Rattle.rules.specs.declared.refusal.Stage.{Stage}
use Rattle.rules.specs.declared.refusal.Stage.TheVariants.{Alone, Opening, Offer}
use Rattle.rules.specs.declared.refusal.Fields.{Fields}
use Rattle.rules.specs.declared.refusal.Fields.TheVariants.{Nothing, One, Two, Three, Counts as CountsOf}
use Rattle.rules.specs.declared.refusal.Refusal.{Refusal}
use Rattle.rules.specs.declared.refusal.Refusal.TheVariants.{Length, ForeignCode, ForeignPoint, Zero, Modulus, NoField, Repeated, Vanishing, High, Settled, Full, Spent, Empty, Short}

abbrev pub length_number : ℕ
length_number = 1

abbrev pub foreign_number : ℕ
foreign_number = 2

abbrev pub number : Refusal → ℕ
number (Length table length) = length_number
number (ForeignCode table place code) = foreign_number
number (ForeignPoint point) = foreign_number
number (Zero table) = 3
number (Modulus modulus) = 4
number (NoField element stage) = 5
number (Repeated point) = 11
number (Vanishing point) = 12
number (High point degree) = 13
number (Settled point) = 14
number (Full counts) = 15
number (Spent counts) = 16
number (Empty counts) = 17
number (Short counts) = 18

abbrev pub table_number : Table → ℕ
table_number A = 1
table_number B = 2
table_number Divisor = 3
table_number CofactorA = 4
table_number CofactorB = 5

abbrev pub stage_number : Stage → ℕ
stage_number Alone = 0
stage_number Opening = 1
stage_number Offer = 2

-- the eight counts, in the order in which they are shown
abbrev pub count_list : Counts → List ℕ
count_list c = c.offered ∷ c.foreign ∷ c.repeated ∷ c.vanishing ∷ c.high ∷ c.late ∷ c.dropped ∷ c.held ∷ []

-- what a refusal names, in the order in which it is shown; a foreign point is in no table
abbrev pub fields : Refusal → List ℕ
fields (Length table length) = table_number table ∷ length ∷ []
fields (ForeignCode table place code) = table_number table ∷ place ∷ code ∷ []
fields (ForeignPoint point) = 0 ∷ 0 ∷ point ∷ []
fields (Zero table) = table_number table ∷ []
fields (Modulus modulus) = []
fields (NoField element stage) = element ∷ stage_number stage ∷ []
fields (Repeated point) = point ∷ []
fields (Vanishing point) = point ∷ []
fields (High point degree) = point ∷ degree ∷ []
fields (Settled point) = point ∷ []
fields (Full counts) = count_list counts
fields (Spent counts) = count_list counts
fields (Empty counts) = count_list counts
fields (Short counts) = count_list counts

-- the numbers of such a list, in order
abbrev pub named : Fields → List ℕ
named Nothing = []
named (One numbers) = numbers
named (Two numbers) = numbers
named (Three numbers) = numbers
named (CountsOf numbers) = numbers

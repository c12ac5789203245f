-- Which plain queues a `WaitQueue` stands for.
use Rattle.std.specs.Prelude.{◌≡◌, ◌+◌, ℕ, true, List, ◌++◌, length}
use Rattle.tower_base.specs.Links.{LinksView}
use Rattle.tower_base.specs.Order.{has}
use Rattle.tower_latch.specs.WaitList.{WaitList}
use Rattle.tower_latch.specs.Waiters.{Waits}
use Rattle.tower_latch.specs.declared.wait_queue.WaitQueue.{WaitQueue}

-- The number of waiters that are granted and haven't seen their grant, the number that wait without a grant, and the sum of both.
abbrev pub granted : WaitQueue → ℕ
granted queue = queue.granted

abbrev pub ungranted : WaitQueue → ℕ
ungranted queue = length queue.waiters.order

abbrev pub size : WaitQueue → ℕ
size queue = queue.granted + length queue.waiters.order

-- how many waiters fit without allocation
abbrev pub room : WaitQueue → ℕ
room queue = queue.waiters.entries.capacity

-- how many entries were reached so far
abbrev pub touches : WaitQueue → ℕ
touches queue = queue.waiters.touches

-- The plain keys are `count` granted ones, in the order of asking, which the queue doesn't keep, and behind them those that are linked.
abbrev pub StandsAs : ℕ → LinksView (Unit {0}) → WaitList → Type 0
StandsAs count waiters plain = (front : List ℕ) × Waits front waiters × (length front ≡ count) × (plain.keys ≡ front ++ waiters.order) × (plain.granted ≡ count)

abbrev pub StandsFor : WaitQueue → WaitList → Type 0
StandsFor queue = StandsAs queue.granted queue.waiters

-- From each plain queue that the old one stands for, the change leads to one that the new one stands for.
abbrev pub Follows : WaitQueue → (WaitList → WaitList → Type 0) → WaitQueue → Type 0
Follows old change new = (plain : WaitList) → StandsFor old plain → (next : WaitList) × change plain next × StandsFor new next

-- Whoever looks with this key is told to wait.
abbrev pub stalls : WaitQueue → ℕ → Type 0
stalls queue key = has queue.waiters.order key ≡ true

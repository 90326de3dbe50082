-- How many ends of rings the parts have, while they are opened and afterwards.
use Rattle.std.specs.Prelude.{◌≡◌, ◌<◌, ◌≤◌, ◌+◌, ℕ, List, length, slice_index_or}
use Rattle.eevdf_free_tasks.specs.Parts.{Part}

-- this holds of each CPU's part
abbrev pub OfEach : (ℕ → Part → Type 0) → List Part → Type 0
OfEach Holds parts = (cpu : ℕ) (part : Part) → cpu < length parts → slice_index_or parts cpu part ≡ part → Holds cpu part

-- a part with an end of a ring to each of so many homes, and from as many senders
pub record HasRings (cpus : ℕ) (part : Part) : Type 0 where
  pub sent : length part.sent ≡ cpus
  pub free : length part.free ≡ cpus
  pub received : length part.received ≡ cpus

abbrev pub HaveRings : ℕ → List Part → Type 0
HaveRings cpus parts = OfEach (λ _ part. HasRings cpus part) parts

-- a CPU's part has ends to all homes before this one, and one to this home if the CPU is among the first so many senders
pub record IsSending (home senders cpu : ℕ) (part : Part) : Type 0 where
  pub joined : cpu < senders → length part.sent ≡ home + 1
  pub others : senders ≤ cpu → length part.sent ≡ home
  pub free : length part.free ≡ length part.sent

-- it has ends from all CPUs if its home comes before this one, and from the first so many senders if it is this one
pub record IsReceiving (cpus home senders cpu : ℕ) (part : Part) : Type 0 where
  pub below : cpu < home → length part.received ≡ cpus
  pub here : cpu ≡ home → length part.received ≡ senders
  pub above : home < cpu → length part.received ≡ 0

-- the rings of all homes before this one are given, and those of the first so many senders to this one
pub record AreJoined (cpus home senders : ℕ) (parts : List Part) : Type 0 where
  pub sending : OfEach (IsSending home senders) parts
  pub receiving : OfEach (IsReceiving cpus home senders) parts

-- The promises of the exported calls leave no choice: any two outcomes that one allows of the same inputs are equal. Assumes nothing.
use mathlib.Core.Path.{◌≡◌, sym, ap, ◌∙◌}
use mathlib.Core.List.{List}
use Prim.Native.Nat.{ℕ}
use Rattle.answers.specs.Said.{Said}
use Rattle.parsing.proofs.Determined.{parse-one}
use Rattle.exported.specs.Exported.{value_at, told_at, ReadExported, WriteExported, ParseExported, PrintExported, CentralExported, LoadExported, SampleExported, StepExported, CloseExported, AskExported, CaptureExported, ReportExported, AddExported, MendExported, StretchExported}

pub read-determined : {file masks formula m m₂ f f₂ : List ℕ} {boards propositions nodes b b₂ p p₂ n n₂ a a₂ : ℕ}
    → ReadExported file masks formula m f boards propositions nodes b p n a → ReadExported file masks formula m₂ f₂ boards propositions nodes b₂ p₂ n₂ a₂
    → (a ≡ a₂) × (m ≡ m₂) × (f ≡ f₂) × (b ≡ b₂) × (p ≡ p₂) × (n ≡ n₂)
read-determined x y = (
  x.says ∙ sym y.says,
  x.leaves-masks ∙ sym y.leaves-masks,
  x.leaves-formula ∙ sym y.leaves-formula,
  x.gives-boards ∙ sym y.gives-boards,
  x.gives-propositions ∙ sym y.gives-propositions,
  x.gives-nodes ∙ sym y.gives-nodes,
)

pub write-determined : {masks formula file f f₂ : List ℕ} {p written w w₂ a a₂ : ℕ}
    → WriteExported masks p formula file f written w a → WriteExported masks p formula file f₂ written w₂ a₂ → (a ≡ a₂) × (f ≡ f₂) × (w ≡ w₂)
write-determined x y = (x.says ∙ sym y.says, x.leaves ∙ sym y.leaves, x.gives-length ∙ sym y.gives-length)

pub parse-determined : {text formula f f₂ : List ℕ} {nodes line byte n n₂ l l₂ b b₂ a a₂ : ℕ}
    → ParseExported text formula f nodes line byte n l b a → ParseExported text formula f₂ nodes line byte n₂ l₂ b₂ a₂
    → (a ≡ a₂) × (f ≡ f₂) × (n ≡ n₂) × (l ≡ l₂) × (b ≡ b₂)
parse-determined {nodes = nodes} {line = line} {byte = byte} x y =
    let (e, f) = parse-one x.parses y.parses in (
      x.says ∙ ap (λ (s : Said). s.number) e ∙ sym y.says,
      f,
      x.gives-nodes ∙ ap (λ (s : Said). value_at s 0 nodes) e ∙ sym y.gives-nodes,
      x.gives_line ∙ ap (λ (s : Said). told_at s 0 line) e ∙ sym y.gives_line,
      x.gives-byte ∙ ap (λ (s : Said). told_at s 1 byte) e ∙ sym y.gives-byte,
    )

pub print-determined : {formula text t t₂ : List ℕ} {count c c₂ a a₂ : ℕ}
    → PrintExported formula text t count c a → PrintExported formula text t₂ count c₂ a₂ → (a ≡ a₂) × (t ≡ t₂) × (c ≡ c₂)
print-determined x y = (x.says ∙ sym y.says, x.leaves ∙ sym y.leaves, x.gives-length ∙ sym y.gives-length)

pub central-determined : {formula output o o₂ : List ℕ} {event verdict nodes v v₂ n n₂ a a₂ : ℕ}
    → CentralExported formula event output o verdict nodes v n a → CentralExported formula event output o₂ verdict nodes v₂ n₂ a₂ → (a ≡ a₂) × (o ≡ o₂) × (v ≡ v₂) × (n ≡ n₂)
central-determined x y =
    (x.says ∙ sym y.says, x.leaves ∙ sym y.leaves, x.gives-verdict ∙ sym y.gives-verdict, x.gives-length ∙ sym y.gives-length)

pub load-determined : {file state s s₂ : List ℕ} {a a₂ : ℕ} → LoadExported file state s a → LoadExported file state s₂ a₂ → (a ≡ a₂) × (s ≡ s₂)
load-determined x y = (x.says ∙ sym y.says, x.leaves ∙ sym y.leaves)

pub sample-determined : {state s s₂ : List ℕ} {board bits a a₂ : ℕ} → SampleExported state board bits s a → SampleExported state board bits s₂ a₂ → (a ≡ a₂) × (s ≡ s₂)
sample-determined x y = (x.says ∙ sym y.says, x.leaves ∙ sym y.leaves)

pub step-determined : {state s s₂ : List ℕ} {slot a a₂ : ℕ} → StepExported state slot s a → StepExported state slot s₂ a₂ → (a ≡ a₂) × (s ≡ s₂)
step-determined x y = (x.says ∙ sym y.says, x.leaves ∙ sym y.leaves)

pub close-determined : {state second s s₂ : List ℕ} {a a₂ : ℕ} → CloseExported state second s a → CloseExported state second s₂ a₂ → (a ≡ a₂) × (s ≡ s₂)
close-determined x y = (x.says ∙ sym y.says, x.leaves ∙ sym y.leaves)

pub ask-determined : {state : List ℕ} {verdict ticks slots nodes v v₂ t t₂ k k₂ n n₂ a a₂ : ℕ}
    → AskExported state verdict ticks slots nodes v t k n a → AskExported state verdict ticks slots nodes v₂ t₂ k₂ n₂ a₂
    → (a ≡ a₂) × (v ≡ v₂) × (t ≡ t₂) × (k ≡ k₂) × (n ≡ n₂)
ask-determined x y = (
  x.says ∙ sym y.says,
  x.gives-verdict ∙ sym y.gives-verdict,
  x.gives-ticks ∙ sym y.gives-ticks,
  x.gives-slots ∙ sym y.gives-slots,
  x.gives-nodes ∙ sym y.gives-nodes,
)

pub capture-determined : {state second events s s₂ t t₂ : List ℕ} {closed verdict stop c c₂ v v₂ k k₂ a a₂ : ℕ}
    → CaptureExported state second events s t closed verdict stop c v k a → CaptureExported state second events s₂ t₂ closed verdict stop c₂ v₂ k₂ a₂
    → (a ≡ a₂) × (s ≡ s₂) × (t ≡ t₂) × (c ≡ c₂) × (v ≡ v₂) × (k ≡ k₂)
capture-determined x y = (
  x.says ∙ sym y.says,
  x.leaves ∙ sym y.leaves,
  x.leaves-second ∙ sym y.leaves-second,
  x.gives-closed ∙ sym y.gives-closed,
  x.gives-verdict ∙ sym y.gives-verdict,
  x.gives-stop ∙ sym y.gives-stop,
)

pub report-determined : {runs report e e₂ : List ℕ} {place p p₂ a a₂ : ℕ}
    → ReportExported runs report e place p a → ReportExported runs report e₂ place p₂ a₂ → (a ≡ a₂) × (e ≡ e₂) × (p ≡ p₂)
report-determined x y = (x.says ∙ sym y.says, x.leaves ∙ sym y.leaves, x.gives-place ∙ sym y.gives-place)

pub add-determined : {total night e e₂ : List ℕ} {a a₂ : ℕ} → AddExported total night e a → AddExported total night e₂ a₂ → (a ≡ a₂) × (e ≡ e₂)
add-determined x y = (x.says ∙ sym y.says, x.leaves ∙ sym y.leaves)

pub mend-determined : {recording mended marks e e₂ l l₂ : List ℕ} {kept first k k₂ f f₂ a a₂ : ℕ}
    → MendExported recording mended marks e l kept first k f a → MendExported recording mended marks e₂ l₂ kept first k₂ f₂ a₂
    → (a ≡ a₂) × (e ≡ e₂) × (l ≡ l₂) × (k ≡ k₂) × (f ≡ f₂)
mend-determined x y = (
  x.says ∙ sym y.says,
  x.leaves ∙ sym y.leaves,
  x.leaves-marks ∙ sym y.leaves-marks,
  x.gives-kept ∙ sym y.gives-kept,
  x.gives-first ∙ sym y.gives-first,
)

pub stretch-determined : {recording events e e₂ : List ℕ} {first f f₂ a a₂ : ℕ}
    → StretchExported recording events e first f a → StretchExported recording events e₂ first f₂ a₂ → (a ≡ a₂) × (e ≡ e₂) × (f ≡ f₂)
stretch-determined x y = (x.says ∙ sym y.says, x.leaves ∙ sym y.leaves, x.gives-first ∙ sym y.gives-first)

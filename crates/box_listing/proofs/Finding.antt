-- How what is found is put together.
use Rattle.std.proofs.Common.{◌≡◌, ◌∙◌, List, [], ◌++◌, Result, Ok, Err, OnOk, ap, sym, append_assoc, append-nil}
use Rattle.awk_program.specs.View.{Names}
use Rattle.box_listing.specs.declared.site.Found.{Found}
use Rattle.box_listing.specs.Walks.{Finds}

-- these are behind what was there
abbrev pub Adds : List Found → List Found → (Names → List Found) → Type 0
Adds old new found = (t : Names) → new ≡ old ++ found t

-- nothing is found
pub nothing : (old : List Found) (found : Names → List Found) → ((t : Names) → found t ≡ []) → Adds old old found
nothing old found e t = sym (ap (λ z. old ++ z) (e t) ∙ append-nil old)

-- the same by other words
pub same : {A E : Type 0} (r : Result A E) (old new : List Found) (f g : Names → List Found) → Finds r old new f
    → ((t : Names) → f t ≡ g t) → Finds r old new g
same (Ok x) old new f g h e = λ t. h t ∙ ap (λ z. old ++ z) (e t)
same (Err x) old new f g h e = tt

-- what is found whatever the variables are called
pub told : {A E : Type 0} (r : Result A E) (old new found : List Found) (g : Names → List Found)
    → OnOk r (new ≡ old ++ found) → ((t : Names) → found ≡ g t) → Finds r old new g
told (Ok x) old new found g h e = λ t. h ∙ ap (λ z. old ++ z) (e t)
told (Err x) old new found g h e = tt

-- one part and then the rest
pub then : {A E : Type 0} (r : Result A E) (old mid new : List Found) (f g h : Names → List Found) →
    Adds old mid f → Finds r mid new g → ((t : Names) → f t ++ g t ≡ h t) → Finds r old new h
then (Ok x) old mid new f g h a b e = λ t. b t ∙ ap (λ z. z ++ g t) (a t) ∙ append_assoc old (f t) (g t)
    ∙ ap (λ z. old ++ z) (e t)
then (Err x) old mid new f g h a b e = tt

-- two parts, one after the other
pub after : (old mid new : List Found) (f g : Names → List Found) → Adds old mid f → Adds mid new g
    → Adds old new (λ t. f t ++ g t)
after old mid new f g a b t = b t ∙ ap (λ z. z ++ g t) (a t) ∙ append_assoc old (f t) (g t)

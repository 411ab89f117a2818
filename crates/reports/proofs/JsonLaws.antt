-- A report's JSON has no float, and is the same for lists that are the same.
use Rattle.std.proofs.Common.{ℕ, ℤ, pos, negsuc, Bool, true, false, ◌||◌, ◌≡◌, ◌++◌, if◌then◌else◌, List, [], ◌∷◌, map, length, codes, slice_index_or, ap, refl, zero, suc, ◌∙◌}
use Rattle.serde_json.specs.Data.{Data, number, object, Members, member, no_members, put}
use Rattle.serde_json.specs.Find.{of_integer}
use Rattle.serde_json.specs.View.{items_of}
use Rattle.serde_json.specs.Written.{has_float, items_have_float}
use Rattle.ctt_reader.specs.declared.instance.Instance.{Instance}
use Rattle.reports.specs.declared.session.Session.{Session}
use Rattle.reports.specs.declared.session.RoomUse.{RoomUse}
use Rattle.reports.specs.Rooms.{each_below, in_room, rooms_of, without_room, IsRoomUse}
use Rattle.reports.proofs.ListLaws.{each_below-same}
use Rattle.reports.specs.Json.{whole, list, hours_data, session_data, sessions_data, used_data, room_with, course_with, rooms_data, courses_data, printed, values_data, report_of, kept_report, sessions_report}

pub same_report : (a a' b b' c c' d d' : Data) → a ≡ a' → b ≡ b' → c ≡ c' → d ≡ d' → report_of a b c d ≡ report_of a' b' c' d'
same_report a a' b b' c c' d d' p q r t = ap (λ x. report_of x b c d) p ∙ ap (λ x. report_of a' x c d) q ∙ ap (λ x. report_of a' b' x d) r ∙ ap (λ x. report_of a' b' c' x) t

both_false : (a b : Bool) → a ≡ false → b ≡ false → (a || b) ≡ false
both_false false b h k = k
both_false true b h k = h

left_false : (a b : Bool) → (a || b) ≡ false → a ≡ false
left_false false b h = refl
left_false true b h = h

right_false : (a b : Bool) → (a || b) ≡ false → b ≡ false
right_false false b h = h
right_false true b h = cc

append_whole : (xs ys : List Data) → items_have_float (items_of xs) ≡ false → items_have_float (items_of ys) ≡ false → items_have_float (items_of (xs ++ ys)) ≡ false
append_whole [] ys h k = k
append_whole (x ∷ xs) ys h k =
    both_false (has_float x) _ (left_false (has_float x) (items_have_float (items_of xs)) h) (append_whole xs ys (right_false (has_float x) (items_have_float (items_of xs)) h) k)

map_whole : {A : Type 0} (f : A → Data) (xs : List A) → ((x : A) → has_float (f x) ≡ false) → items_have_float (items_of (map f xs)) ≡ false
map_whole f [] h = refl
map_whole f (x ∷ xs) h = both_false (has_float (f x)) _ (h x) (map_whole f xs h)

each_whole : (f : ℕ → Data) (n : ℕ) → ((k : ℕ) → has_float (f k) ≡ false) → items_have_float (items_of (each_below (λ k. f k ∷ []) n)) ≡ false
each_whole f zero h = refl
each_whole f (suc n) h = append_whole (each_below (λ k. f k ∷ []) n) (f n ∷ []) (each_whole f n h) (both_false (has_float (f n)) false (h n) refl)

hours_whole : (b : Bool) (n : ℕ) → items_have_float (items_of (if b then whole n ∷ [] else [])) ≡ false
hours_whole true n = refl
hours_whole false n = refl

session_whole : (i : Instance) (x : Session) → has_float (session_data i x) ≡ false
session_whole i x = hours_whole _ x.hours

sessions_whole : (i : Instance) (xs : List Session) → has_float (sessions_data i xs) ≡ false
sessions_whole i xs = map_whole (session_data i) xs (session_whole i)

room_whole : (i : Instance) (r : ℕ) (xs : List Session) → has_float (room_with i r xs) ≡ false
room_whole i r xs = both_false (has_float (sessions_data i xs)) false (sessions_whole i xs) refl

course_whole : (i : Instance) (c : ℕ) (pairs : List (ℕ × ℕ)) → has_float (course_with i c pairs) ≡ false
course_whole i c pairs = both_false (has_float (list (map (used_data i) pairs))) false (map_whole (used_data i) pairs (λ x. refl)) refl

rooms_whole : (i : Instance) (in_it : ℕ → List Session) → has_float (rooms_data i in_it) ≡ false
rooms_whole i in_it = each_whole (λ r. room_with i r (in_it r)) (length i.rooms) (λ r. room_whole i r (in_it r))

courses_whole : (i : Instance) (used : ℕ → List (ℕ × ℕ)) → has_float (courses_data i used) ≡ false
courses_whole i used = each_whole (λ c. course_with i c (used c)) (length i.courses) (λ c. course_whole i c (used c))

value_whole : (z : ℤ) → has_float (number (of_integer z)) ≡ false
value_whole (pos n) = refl
value_whole (negsuc n) = refl

values_whole : (v : List ℤ) → has_float (values_data v) ≡ false
values_whole v = map_whole (λ (z : ℤ). number (of_integer z)) (printed v) value_whole

report_whole : (a b c d : Data) → has_float a ≡ false → has_float b ≡ false → has_float c ≡ false → has_float d ≡ false → has_float (report_of a b c d) ≡ false
report_whole a b c d ha hb hc hd =
    both_false (has_float a) (has_float b || (has_float c || (has_float d || false))) ha
    (both_false (has_float b) (has_float c || (has_float d || false)) hb (both_false (has_float c) (has_float d || false) hc (both_false (has_float d) false hd refl)))

pub kept_whole : (i : Instance) (u : RoomUse) (v : List ℤ) → has_float (kept_report i u v) ≡ false
kept_whole i u v =
    report_whole (courses_data i (λ c. slice_index_or u.by_course.items c [])) (rooms_data i (λ r. slice_index_or u.by_room.items r [])) (sessions_data i u.unroomed) (values_data v)
    (courses_whole i _) (rooms_whole i _) (sessions_whole i u.unroomed) (values_whole v)

-- the members that are put one after the other
pub four_members : (m0 m1 m2 m3 m4 : Members) (a b c d : Data) → m0 ≡ no_members → m1 ≡ put (codes "courses") a m0 → m2 ≡ put (codes "rooms") b m1
    → m3 ≡ put (codes "unroomed") c m2 → m4 ≡ put (codes "values") d m3 → object m4 ≡ report_of a b c d
four_members m0 m1 m2 m3 m4 a b c d e0 e1 e2 e3 e4 =
    let d1 : m1 ≡ member (codes "courses") a no_members = e1 ∙ ap (put (codes "courses") a) e0 in
    let d2 : m2 ≡ member (codes "courses") a (member (codes "rooms") b no_members) = e2 ∙ ap (put (codes "rooms") b) d1 in
    let d3 : m3 ≡ member (codes "courses") a (member (codes "rooms") b (member (codes "unroomed") c no_members)) = e3 ∙ ap (put (codes "unroomed") c) d2 in
    ap object (e4 ∙ ap (put (codes "values") d) d3)

-- lists that are kept are those of the sessions
pub kept_is : (i : Instance) (xs : List Session) (u : RoomUse) (v : List ℤ) → IsRoomUse i xs u → kept_report i u v ≡ sessions_report i xs v
kept_is i xs u v h =
    let courses : courses_data i (λ c. slice_index_or u.by_course.items c []) ≡ courses_data i (rooms_of i xs) =
    ap list (each_below-same (λ c. course_with i c (slice_index_or u.by_course.items c []) ∷ []) (λ c. course_with i c (rooms_of i xs c) ∷ []) (length i.courses)
    (λ c l. ap (λ pairs. course_with i c pairs ∷ []) (h.of_courses c l))) in
    let rooms : rooms_data i (λ r. slice_index_or u.by_room.items r []) ≡ rooms_data i (in_room i xs) =
    ap list (each_below-same (λ r. room_with i r (slice_index_or u.by_room.items r []) ∷ []) (λ r. room_with i r (in_room i xs r) ∷ []) (length i.rooms)
    (λ r l. ap (λ those. room_with i r those ∷ []) (h.in_rooms r l))) in
    let unroomed : sessions_data i u.unroomed ≡ sessions_data i (without_room xs) = ap (sessions_data i) h.unroomed in
    same_report _ _ _ _ _ _ (values_data v) (values_data v) courses rooms unroomed refl

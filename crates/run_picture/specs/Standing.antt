-- Where the nodes of a network are drawn: on a circle by rising number, the first at its top, the others clockwise.
use Rattle.std.specs.Prelude.{ℕ, ◌+◌, ◌-◌, ◌*◌, ◌/◌, ◌%◌, max, min, List, [], ◌∷◌, if◌then◌else◌, nat_lt, slice_index}
use Rattle.run_picture.specs.declared.places.Place.{Place}

-- the sines of 0 to 90 degrees, in ten-thousandths, to the nearest
abbrev pub sines : List ℕ
sines =
    0 ∷ 175 ∷ 349 ∷ 523 ∷ 698 ∷ 872 ∷ 1045 ∷ 1219 ∷ 1392 ∷ 1564 ∷ 1736 ∷ 1908 ∷ 2079 ∷ 2250 ∷ 2419
    ∷ 2588 ∷ 2756 ∷ 2924 ∷ 3090 ∷ 3256 ∷ 3420 ∷ 3584 ∷ 3746 ∷ 3907 ∷ 4067 ∷ 4226 ∷ 4384 ∷ 4540 ∷ 4695 ∷ 4848
    ∷ 5000 ∷ 5150 ∷ 5299 ∷ 5446 ∷ 5592 ∷ 5736 ∷ 5878 ∷ 6018 ∷ 6157 ∷ 6293 ∷ 6428 ∷ 6561 ∷ 6691 ∷ 6820 ∷ 6947
    ∷ 7071 ∷ 7193 ∷ 7314 ∷ 7431 ∷ 7547 ∷ 7660 ∷ 7771 ∷ 7880 ∷ 7986 ∷ 8090 ∷ 8192 ∷ 8290 ∷ 8387 ∷ 8480 ∷ 8572
    ∷ 8660 ∷ 8746 ∷ 8829 ∷ 8910 ∷ 8988 ∷ 9063 ∷ 9135 ∷ 9205 ∷ 9272 ∷ 9336 ∷ 9397 ∷ 9455 ∷ 9511 ∷ 9563 ∷ 9613
    ∷ 9659 ∷ 9703 ∷ 9744 ∷ 9781 ∷ 9816 ∷ 9848 ∷ 9877 ∷ 9903 ∷ 9925 ∷ 9945 ∷ 9962 ∷ 9976 ∷ 9986 ∷ 9994 ∷ 9998
    ∷ 10000 ∷ []

-- the sine of 0 to 180 degrees, in ten-thousandths
abbrev pub half_sine : ℕ → ℕ
half_sine d = slice_index sines (min d (180 - d))

-- 10000 and the sine of 0 to 359 degrees, in ten-thousandths: 0 to 20000
abbrev pub swing : ℕ → ℕ
swing d = if nat_lt d 180 then 10000 + half_sine d else 10000 - half_sine (d - 180)

-- the same at an angle of this many parts of a degree, n to a degree, taken on a straight line between two whole degrees; 360 degrees are none
abbrev pub swing_between : ℕ → ℕ → ℕ
swing_between n parts = (swing (parts / n % 360) * (n - parts % n) + swing ((parts / n + 1) % 360) * (parts % n)) / n

-- how far it is across the circle on which so many nodes stand, in pixels
abbrev pub across : ℕ → ℕ
across nodes = max 120 (min 920 (10 * nodes))

-- how far a node stands from the left or from the top, in pixels, at an angle of this many parts of a degree, as many to a degree as there are nodes; to the nearest, after 20 that are left free
abbrev pub distance_at : ℕ → ℕ → ℕ
distance_at nodes parts = 20 + (across nodes * swing_between nodes parts + 10000) / 20000

-- Where a node stands: node u of n at an angle of 360 u / n degrees from the top. From the left it stands by the sine of this angle, from the top by that of 270 degrees more, which is the cosine turned round.
abbrev pub place_of : ℕ → ℕ → Place
place_of nodes u = record { x = distance_at nodes (360 * u); y = distance_at nodes (360 * u + 270 * nodes) }

-- the radius of a node, in pixels
abbrev pub radius_of : ℕ → ℕ
radius_of nodes = max 1 (min 12 (1200 / nodes))

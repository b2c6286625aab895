-- What a clause sees of a port.
use Rattle.std.specs.Prelude.{◌≡◌, ℕ, Bool, List, [], ◌∷◌, Option, None, option_map, replicate}
use Rattle.std.specs.Net.Addr.{ipv4_octets}
use Rattle.std.specs.Net.Socket.{socket_ip, socket_port}
use Rattle.std.specs.declared.net.ip_addr.IpAddr.TheVariants.{V4}
use Rattle.std.specs.declared.net.ipv4_addr.Ipv4Addr.{Ipv4Addr}
use Rattle.std.specs.declared.net.socket_addr.SocketAddr.{SocketAddr}
use Rattle.pt_app_serve.specs.declared.listening.Port.{Port}

-- the connections that it is still open to
abbrev pub left_of : Port → ℕ
left_of port = port.left

-- whether the connection that was left last had its whole reply; none before the first
abbrev pub ending_at : Port → Option Bool
ending_at port = option_map (λ parting. parting.is_whole) port.last

-- the address 127.0.0.1 with this port
abbrev pub IsOwnAddress : ℕ → SocketAddr → Type 0
IsOwnAddress number address =
    (ip : Ipv4Addr) × (socket_ip address ≡ V4 ip) × (ipv4_octets ip ≡ 127 ∷ 0 ∷ 0 ∷ 1 ∷ [])
    × (socket_port address ≡ number)

-- these connections; of none is it known what its client sends
abbrev pub comes_to : Port → List (Option (List ℕ))
comes_to port = replicate (left_of port) None

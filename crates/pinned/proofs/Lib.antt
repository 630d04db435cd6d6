mod Pinning
